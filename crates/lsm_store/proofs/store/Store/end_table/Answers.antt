-- Each exit is a lemma of `Sealed`, at what the store held before the call.
use Rattle.std.proofs.Common.{ap, subst, ◌∙◌, arith}
use Rattle.std.specs.FinMap as finmap
use Rattle.lsm_version.specs.Levels.{Tables}
use Rattle.lsm_core.specs.Catalogs.{AreOfLive}
use Rattle.lsm_refine.specs.Kept.{Shown}
use Rattle.lsm_store.proofs.Flushes.{refused_before}
use Rattle.lsm_store.proofs.Sealed.{full_tables, sealed_then, ended_ok, ended_err, unnamed_end}
use Rattle.lsm_store.proofs.store.Store.end_table.Goals as goal

pub returns-then-live-ge-TABLE_LIMIT-clause-err : goal.returns-then-live-ge-TABLE_LIMIT-clause-err
returns-then-live-ge-TABLE_LIMIT-clause-err g c =
    full_tables c.args.self.now c.requires.open c.len-live.result c.too_many.result
    (c.len-live.ensures.len ∙ ap (λ (t : Tables). finmap.len t) c.version.ensures.tables
    ∙ ap (λ (v : Shown). finmap.len v.kept.version) c.self.view_is)
    (omega (arith, c.if-live-ge-TABLE_LIMIT.true)) c.too_many.ensures.full c.too_many.ensures.more

pub install_table-requires-clause-sealed : goal.install_table-requires-clause-sealed
install_table-requires-clause-sealed g c κs within =
    sealed_then c.args.self.now c.sync_table.new.self c.name_table.new.self c.args.info c.requires.whole
    (subst (λ (v : Shown). AreOfLive v.kept.version v.kept.views) c.self.view_is c.version.ensures.open) c.requires.open
    c.in-Ok.ensures.rest c.in-Ok-name_table.ensures.rest c.in-Ok.ensures.synced c.in-Ok-name_table.ensures.named

pub returns-in-Ok-name_table-clause-ok : goal.returns-in-Ok-name_table-clause-ok
returns-in-Ok-name_table-clause-ok g c =
    ended_ok c.args.self.now c.sync_table.new.self c.name_table.new.self c.install_table.new.self c.args.info c.requires.whole
    c.in-Ok.ensures.ok c.in-Ok-name_table.ensures.ok c.install_table.result c.install_table.ensures.ok

pub returns-in-Ok-name_table-clause-err : goal.returns-in-Ok-name_table-clause-err
returns-in-Ok-name_table-clause-err g c =
    ended_err c.args.self.now c.sync_table.new.self c.name_table.new.self c.install_table.new.self c.args.info c.requires.whole
    c.in-Ok.ensures.ok c.in-Ok-name_table.ensures.ok c.install_table.result c.install_table.ensures.err

pub returns-in-Err-name_table-clause-err : goal.returns-in-Err-name_table-clause-err
returns-in-Err-name_table-clause-err g c =
    unnamed_end c.args.self.now c.sync_table.new.self c.name_table.new.self c.in-Ok.ensures.ok c.in-Err-name_table.refused
    c.in-Err-name_table.ensures.err

pub returns-in-Err-clause-err : goal.returns-in-Err-clause-err
returns-in-Err-clause-err g c =
    refused_before c.args.self.now c.sync_table.new.self c.in-Err.refused c.in-Err.ensures.err
