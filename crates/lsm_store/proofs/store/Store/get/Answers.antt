-- Each exit is a lemma of `Gets`, at what the store held before the call.
use Rattle.std.specs.Prelude.{ℕ, List, Option, Result, Ok, Err}
use Rattle.std.proofs.Common.{sym, ap, ◌∙◌, subst}
use Rattle.lsm_rows.specs.declared.rows.Row.{Row}
use Rattle.lsm_store.specs.Reading.{value_in_memory}
use Rattle.lsm_model.specs.declared.errors.StoreError.{StoreError}
use Rattle.lsm_model.specs.declared.errors.StoreError.TheVariants as error
use Rattle.lsm_refine.specs.Kept.{Shown}
use Rattle.lsm_store.specs.Inside.{Inner, shown_of}
use Rattle.lsm_store.proofs.Calls.{leads_on}
use Rattle.lsm_store.specs.Fields.{inner}
use Rattle.lsm_store.proofs.Gets.{IsGet, known_get, wanting_get, found_get, refused_get}
use Rattle.lsm_store.proofs.store.Store.get.Given as given
use Rattle.lsm_store.proofs.store.Store.get.Goals as goal
use Rattle.lsm_store.proofs.store.Store.get.Goals.{in-Ok, in-Err-find_row}

at-in-Ok-Some : (g : given.Over) (c : goal.In-Ok-Some g)
    → IsGet c.args.key.now (Ok c.in-Ok-Some.value) c.args.self.now c.args.self.now
at-in-Ok-Some g c =
    subst (λ (v : Shown). IsGet c.args.key.now (Ok c.in-Ok-Some.value) v v) c.self.view_is
    (known_get (inner g.D.Disk.seen c.self.inside) c.args.key.now c.in-Ok-Some.value c.in-Ok-Some.field-0
    c.in-Ok-Some.field-0-is
    (c.in-Ok-Some.ensures
    ∙ ap (λ (rows : List Row). value_in_memory c.self.inside.active rows c.args.key.now) c.rows.ensures))

pub returns-in-Ok-Some-clause-step : goal.returns-in-Ok-Some-clause-step
returns-in-Ok-Some-clause-step g c = (at-in-Ok-Some g c).step

pub returns-in-Ok-Some-clause-images : goal.returns-in-Ok-Some-clause-images
returns-in-Ok-Some-clause-images g c = (at-in-Ok-Some g c).images

pub returns-in-Ok-Some-clause-causes : goal.returns-in-Ok-Some-clause-causes
returns-in-Ok-Some-clause-causes g c = (at-in-Ok-Some g c).causes

pub returns-in-Ok-Some-clause-leads : goal.returns-in-Ok-Some-clause-leads
returns-in-Ok-Some-clause-leads g c start steps = leads_on start steps (at-in-Ok-Some g c)

at-after-find_row : (g : given.Over) (c : goal.Joined-find_row g)
    → IsGet c.args.key.now c.match-find_row.result c.args.self.now (shown_of (record (inner g.D.Disk.seen c.self.inside) {
      disk = g.D.Disk.seen c.find_row.new.disk;
      catalog = c.find_row.new.catalog;
    }))
at-after-find_row g c =
    let x : Inner = inner g.D.Disk.seen c.self.inside in
    let later : Shown = shown_of (record x { disk = g.D.Disk.seen c.find_row.new.disk; catalog = c.find_row.new.catalog }) in
    subst (λ (v : Shown). IsGet c.args.key.now c.match-find_row.result v later) c.self.view_is
    (elim c.match-find_row.branch [
      | in-Ok w ↦
          subst (λ (r : Result (Option (List ℕ)) StoreError). IsGet c.args.key.now r (shown_of x) later) (sym w.result-is)
          (found_get x c.args.key.now c.in-Ok-None.field-0 c.in-Ok-None.field-0-is (c.in-Ok-None.ensures
          ∙ ap (λ (rows : List Row). value_in_memory c.self.inside.active rows c.args.key.now) c.rows.ensures) (g.D.Disk.seen
          c.find_row.new.disk)
          c.find_row.new.catalog w.in-Ok.row w.value_of.result w.value_of.ensures w.in-Ok.ensures)
      | in-Err-find_row w ↦
          subst (λ (r : Result (Option (List ℕ)) StoreError). IsGet c.args.key.now r (shown_of x) later) (sym w.result-is)
          (refused_get x c.args.key.now c.in-Ok-None.field-0 c.in-Ok-None.field-0-is (c.in-Ok-None.ensures
          ∙ ap (λ (rows : List Row). value_in_memory c.self.inside.active rows c.args.key.now) c.rows.ensures) (g.D.Disk.seen
          c.find_row.new.disk)
          c.find_row.new.catalog w.in-Err-find_row.refused w.in-Err-find_row.ensures)
    ])

pub returns-after-find_row-clause-step : goal.returns-after-find_row-clause-step
returns-after-find_row-clause-step g c = (at-after-find_row g c).step

pub returns-after-find_row-clause-images : goal.returns-after-find_row-clause-images
returns-after-find_row-clause-images g c = (at-after-find_row g c).images

pub returns-after-find_row-clause-causes : goal.returns-after-find_row-clause-causes
returns-after-find_row-clause-causes g c = (at-after-find_row g c).causes

pub returns-after-find_row-clause-leads : goal.returns-after-find_row-clause-leads
returns-after-find_row-clause-leads g c start steps = leads_on start steps (at-after-find_row g c)

at-in-Err : (g : given.Over) (c : goal.In-Err g)
    → IsGet c.args.key.now (Err error.NoMemory) c.args.self.now c.args.self.now
at-in-Err g c =
    subst (λ (v : Shown). IsGet c.args.key.now (Err error.NoMemory) v v) c.self.view_is
    (wanting_get (inner g.D.Disk.seen c.self.inside) c.args.key.now)

pub returns-in-Err-clause-step : goal.returns-in-Err-clause-step
returns-in-Err-clause-step g c = (at-in-Err g c).step

pub returns-in-Err-clause-images : goal.returns-in-Err-clause-images
returns-in-Err-clause-images g c = (at-in-Err g c).images

pub returns-in-Err-clause-causes : goal.returns-in-Err-clause-causes
returns-in-Err-clause-causes g c = (at-in-Err g c).causes

pub returns-in-Err-clause-leads : goal.returns-in-Err-clause-leads
returns-in-Err-clause-leads g c start steps = leads_on start steps (at-in-Err g c)
