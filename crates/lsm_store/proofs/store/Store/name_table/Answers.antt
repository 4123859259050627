-- Each exit is a lemma of `Seals`, at what the store held before the call.
use Rattle.std.specs.Prelude.{◌≡◌, ℕ, None}
use Rattle.std.proofs.Common.{sym, ap, subst, ◌∙◌}
use Rattle.lsm_names.specs.declared.file_names.FileName.TheVariants.{Table}
use Rattle.lsm_disk.specs.State.{names_synced}
use Rattle.lsm_disk.specs.Answers.{Makes}
use Rattle.lsm_disk.specs.Dest.{path_in}
use Rattle.lsm_refine.specs.Kept.{Shown}
use Rattle.lsm_flush.specs.declared.frozen.Held.{Held}
use Rattle.lsm_store.specs.Fields.{inner}
use Rattle.lsm_store.specs.FlushParts.{Came, Refuses}
use Rattle.lsm_store.specs.Inside.{Inner, IsInside, shown_of}
use Rattle.lsm_store.proofs.Seals.{named_table, unnamed_table}
use Rattle.lsm_store.proofs.Wholes.{table_held, number_begun}
use Rattle.lsm_store.proofs.store.Store.name_table.Goals as goal

pub returns-in-Ok-clause-ok : goal.returns-in-Ok-clause-ok
returns-in-Ok-clause-ok g c =
    let x : Inner = inner g.D.Disk.seen c.self.inside in
    let none : c.self.inside.halt ≡ None = ap (λ (v : Shown). v.halt) c.self.view_is ∙ c.requires.open in
    let at = table_held c.self.inside.frozen c.args.number (number_begun c.self.inside.frozen c.args.number
    (ap (λ (v : Shown). v.kept.flushing.table) c.self.view_is ∙ c.requires.begun)) in
    subst (λ (v : Shown). Came 0 v (shown_of (record x { disk = g.D.Disk.seen c.sync_names.new.disk }))) c.self.view_is
    (subst (λ (h : Held). Came 0 (shown_of (record x { frozen = h }))
    (shown_of (record x { frozen = h; disk = g.D.Disk.seen c.sync_names.new.disk }))) (sym at.1)
    (named_table x at.0 (subst (λ (h : Held). IsInside (record x { frozen = h })) at.1 c.self.invariant) none
    (g.D.Disk.seen c.sync_names.new.disk) c.file-path.result
    (c.file-path.ensures ∙ ap (λ (n : ℕ). path_in c.self.inside.home (Table n)) at.2) c.sync_names.ensures.cause.faults_later
    c.sync_names.ensures.cause.refusals_later c.in-Ok.ensures.made))

pub returns-in-Ok-clause-named : goal.returns-in-Ok-clause-named
returns-in-Ok-clause-named g c =
    subst (λ (v : Shown). Makes v.disk.told names_synced (g.D.Disk.seen c.sync_names.new.disk).told) c.self.view_is
    c.in-Ok.ensures.made

pub returns-in-Ok-clause-rest : goal.returns-in-Ok-clause-rest
returns-in-Ok-clause-rest g c =
    ap (λ (v : Shown). record v { disk = g.D.Disk.seen c.sync_names.new.disk }) c.self.view_is

pub returns-in-Err-clause-err : goal.returns-in-Err-clause-err
returns-in-Err-clause-err g c =
    let x : Inner = inner g.D.Disk.seen c.self.inside in
    let none : c.self.inside.halt ≡ None = ap (λ (v : Shown). v.halt) c.self.view_is ∙ c.requires.open in
    let at = table_held c.self.inside.frozen c.args.number (number_begun c.self.inside.frozen c.args.number
    (ap (λ (v : Shown). v.kept.flushing.table) c.self.view_is ∙ c.requires.begun)) in
    subst (λ (v : Shown). Refuses 0 c.error_of.result v (shown_of (record x {
      disk = g.D.Disk.seen c.sync_names.new.disk;
      halt = c.halt_of-self-inside.result;
    }))) c.self.view_is
    (subst (λ (h : Held). Refuses 0 c.error_of.result (shown_of (record x { frozen = h })) (shown_of (record x {
      frozen = h;
      disk = g.D.Disk.seen c.sync_names.new.disk;
      halt = c.halt_of-self-inside.result;
    }))) (sym at.1)
    (unnamed_table x at.0 (subst (λ (h : Held). IsInside (record x { frozen = h })) at.1 c.self.invariant) none
    (g.D.Disk.seen c.sync_names.new.disk) c.file-path.result
    (c.file-path.ensures ∙ ap (λ (n : ℕ). path_in c.self.inside.home (Table n)) at.2) c.sync_names.ensures.cause.faults_later
    c.sync_names.ensures.cause.refusals_later c.in-Err.refused c.halt_of-self-inside.result c.error_of.result
    c.in-Err.ensures.refused c.in-Err.ensures.cause.counted c.halt_of-self-inside.ensures c.error_of.ensures))
