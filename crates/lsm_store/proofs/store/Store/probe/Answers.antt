-- Each exit is a lemma of `Probes`, at what the store held before the call.
use Rattle.std.specs.Prelude.{List, None, Result, Ok, Err}
use Rattle.std.proofs.Common.{sym, ap, ◌∙◌, subst}
use Rattle.lsm_rows.specs.declared.rows.Row.{Row}
use Rattle.lsm_store.specs.Reading.{value_in_memory}
use Rattle.lsm_model.specs.declared.errors.StoreError.{StoreError}
use Rattle.lsm_model.specs.declared.errors.StoreError.TheVariants as error
use Rattle.lsm_refine.specs.Kept.{Shown}
use Rattle.lsm_store.specs.Inside.{Inner, shown_of}
use Rattle.lsm_store.specs.Reading.{Probed}
use Rattle.lsm_store.specs.declared.probing.Probe.{Probe}
use Rattle.lsm_store.specs.declared.probing.Probe.TheVariants.{Known}
use Rattle.lsm_store.specs.Fields.{inner}
use Rattle.lsm_store.proofs.Probes.{known_probe, empty_probe, look_probe, refused_probe, wanting_probe}
use Rattle.lsm_store.proofs.store.Store.probe.Goals as goal
use Rattle.lsm_store.proofs.store.Store.probe.Goals.{in-Ok, in-Err-open_tables}

pub returns-in-Ok-Some : goal.returns-in-Ok-Some
returns-in-Ok-Some g c =
    subst (λ (v : Shown). Probed {V = g.row.D-View.Denot} c.args.key.now v v (Ok (Known c.in-Ok-Some.value))) c.self.view_is
    (known_probe g.row.D-View.Denot (inner g.D.Disk.seen c.self.inside) c.args.key.now c.in-Ok-Some.value c.in-Ok-Some.field-0
    c.in-Ok-Some.field-0-is (c.in-Ok-Some.ensures
    ∙ ap (λ (rows : List Row). value_in_memory c.self.inside.active rows c.args.key.now) c.rows.ensures))

pub returns-then-has_no_table : goal.returns-then-has_no_table
returns-then-has_no_table g c =
    subst (λ (v : Shown). Probed {V = g.row.D-View.Denot} c.args.key.now v v (Ok (Known None))) c.self.view_is
    (empty_probe g.row.D-View.Denot (inner g.D.Disk.seen c.self.inside) c.args.key.now c.in-Ok-None.field-0
    c.in-Ok-None.field-0-is
    (c.in-Ok-None.ensures
    ∙ ap (λ (rows : List Row). value_in_memory c.self.inside.active rows c.args.key.now) c.rows.ensures) (sym c.if-has_no_table.ensures))

pub returns-after-open_tables : goal.returns-after-open_tables
returns-after-open_tables g c =
    let x : Inner = inner g.D.Disk.seen c.self.inside in
    let later : Shown = shown_of (record x { disk = g.D.Disk.seen c.open_tables.new.disk }) in
    subst (λ (v : Shown). Probed {V = g.row.D-View.Denot} c.args.key.now v later c.match-open_tables.result) c.self.view_is
    (elim c.match-open_tables.branch [
      | in-Ok w ↦
          subst (λ (r : Result (Probe g.row.D-View.Denot) StoreError). Probed {V = g.row.D-View.Denot} c.args.key.now
          (shown_of x) later r)
          (sym w.result-is)
          (look_probe g.row.D-View.Denot x c.args.key.now c.in-Ok-None.field-0 c.in-Ok-None.field-0-is (c.in-Ok-None.ensures
          ∙ ap (λ (rows : List Row). value_in_memory c.self.inside.active rows c.args.key.now) c.rows.ensures)
          (sym c.if-has_no_table.ensures) (g.D.Disk.seen c.open_tables.new.disk) w.in-Ok.tables w.in-Ok.ensures)
      | in-Err-open_tables w ↦
          subst (λ (r : Result (Probe g.row.D-View.Denot) StoreError). Probed {V = g.row.D-View.Denot} c.args.key.now
          (shown_of x) later r)
          (sym w.result-is)
          (refused_probe g.row.D-View.Denot x c.args.key.now c.in-Ok-None.field-0 c.in-Ok-None.field-0-is (c.in-Ok-None.ensures
          ∙ ap (λ (rows : List Row). value_in_memory c.self.inside.active rows c.args.key.now) c.rows.ensures)
          (sym c.if-has_no_table.ensures) (g.D.Disk.seen c.open_tables.new.disk) w.in-Err-open_tables.refused
          w.in-Err-open_tables.ensures)
    ])

pub returns-in-Err : goal.returns-in-Err
returns-in-Err g c =
    subst (λ (v : Shown). Probed {V = g.row.D-View.Denot} c.args.key.now v v (Err error.NoMemory)) c.self.view_is
    (wanting_probe g.row.D-View.Denot (inner g.D.Disk.seen c.self.inside) c.args.key.now)
