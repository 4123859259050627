-- The edit and the version are those of `Installs`, at what the store held before the call.
use Rattle.std.specs.Prelude.{◌<◌}
use Rattle.std.proofs.Common.{sym, ap, subst, ◌∙◌}
use Rattle.std.specs.FinMap as finmap
use Rattle.lsm_memtable.specs.Greatest.{greatest_from}
use Rattle.lsm_memtable.specs.Order.{AreInOrder}
use Rattle.lsm_model.specs.Causes.{table_limit}
use Rattle.lsm_refine.specs.Kept.{Shown}
use Rattle.lsm_store.specs.Fields.{inner}
use Rattle.lsm_store.specs.FlushParts.{AddsTable, InstallsBy, IsSealed}
use Rattle.lsm_store.specs.Inside.{Inner, shown_of}
use Rattle.lsm_store.proofs.Installs.{adds_table, installs_by, wanting_edit}
use Rattle.lsm_store.proofs.store.Store.install_table.Goals as goal

pub returns-in_default-clause-err : goal.returns-in_default-clause-err
returns-in_default-clause-err g c = wanting_edit c.args.self.now c.requires.open

pub returns-in_default-with_table-clause-err : goal.returns-in_default-with_table-clause-err
returns-in_default-with_table-clause-err g c = wanting_edit c.args.self.now c.requires.open

pub roll_table-requires-clause-by : goal.roll_table-requires-clause-by
roll_table-requires-clause-by g c κs within =
    let x : Inner = inner g.D.Disk.seen c.self.inside in
    let sealed : IsSealed (shown_of x) c.args.info =
    subst (λ (v : Shown). IsSealed v c.args.info) (sym c.self.view_is) c.requires.sealed in
    let few : finmap.len c.self.inside.catalog.version < table_limit =
    subst (λ (v : Shown). finmap.len v.kept.version < table_limit) (sym c.self.view_is) c.requires.few in
    subst (λ (v : Shown). AddsTable v c.last_sequence-last.result c.in-Ok-with_table.version) c.self.view_is
    (adds_table x c.self.invariant c.args.info sealed c.last_sequence-last.result
    (c.last_sequence-last.ensures.last ∙ ap (greatest_from 0) c.rows.ensures)
    (subst AreInOrder c.rows.ensures c.last_sequence-last.ensures.order) c.in-Ok-with_table.version
    (c.in-Ok-with_table.ensures c.args.info c.self.inside.log c.self.inside.next c.last_sequence-last.result c.in-Ok.ensures
    sealed.fresh sealed.numbered sealed.said) few)

pub append_table-requires-clause-by : goal.append_table-requires-clause-by
append_table-requires-clause-by g c κs within =
    let x : Inner = inner g.D.Disk.seen c.self.inside in
    let sealed : IsSealed (shown_of x) c.args.info =
    subst (λ (v : Shown). IsSealed v c.args.info) (sym c.self.view_is) c.requires.sealed in
    let few : finmap.len c.self.inside.catalog.version < table_limit =
    subst (λ (v : Shown). finmap.len v.kept.version < table_limit) (sym c.self.view_is) c.requires.few in
    subst (λ (v : Shown). InstallsBy v c.last_sequence-last.result c.in-Ok.edit c.in-Ok-with_table.version) c.self.view_is
    (installs_by x c.self.invariant c.args.info sealed c.last_sequence-last.result
    (c.last_sequence-last.ensures.last ∙ ap (greatest_from 0) c.rows.ensures)
    (subst AreInOrder c.rows.ensures c.last_sequence-last.ensures.order) c.in-Ok-with_table.version
    (c.in-Ok-with_table.ensures c.args.info c.self.inside.log c.self.inside.next c.last_sequence-last.result c.in-Ok.ensures
    sealed.fresh sealed.numbered sealed.said) few c.in-Ok.edit c.in-Ok.ensures)
