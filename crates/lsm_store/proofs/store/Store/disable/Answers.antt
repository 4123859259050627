-- Each exit is a lemma of `Counting`, at what the store held before the call.
use Rattle.std.specs.Prelude.{◌+◌, Ok, Err}
use Rattle.std.proofs.Common.{subst, arith}
use Rattle.lsm_model.specs.declared.errors.StoreError.TheVariants as error
use Rattle.lsm_refine.specs.Kept.{Shown}
use Rattle.lsm_store.specs.Inside.{Inner, shown_of}
use Rattle.lsm_store.proofs.Calls.{leads_on}
use Rattle.lsm_store.specs.Fields.{inner}
use Rattle.lsm_store.proofs.Counting.{IsDisable, ok_disable, full_disable}
use Rattle.lsm_store.proofs.store.Store.disable.Given as given
use Rattle.lsm_store.proofs.store.Store.disable.Goals as goal

at-then-count-ge-DISABLE_LIMIT : (g : given.Over) (c : goal.Then-count-ge-DISABLE_LIMIT g)
    → IsDisable (Err (error.DisablesFull c.disables-count.result)) c.args.self.now c.args.self.now
at-then-count-ge-DISABLE_LIMIT g c =
    let x : Inner = inner g.D.Disk.seen c.self.inside in
    subst (λ (v : Shown). IsDisable (Err (error.DisablesFull c.disables-count.result)) v v) c.self.view_is
    (full_disable x c.disables-count.result c.disables-count.ensures c.if-count-ge-DISABLE_LIMIT.true)

pub returns-then-count-ge-DISABLE_LIMIT-clause-step : goal.returns-then-count-ge-DISABLE_LIMIT-clause-step
returns-then-count-ge-DISABLE_LIMIT-clause-step g c = (at-then-count-ge-DISABLE_LIMIT g c).step

pub returns-then-count-ge-DISABLE_LIMIT-clause-images : goal.returns-then-count-ge-DISABLE_LIMIT-clause-images
returns-then-count-ge-DISABLE_LIMIT-clause-images g c s good = (at-then-count-ge-DISABLE_LIMIT g c).images s good

pub returns-then-count-ge-DISABLE_LIMIT-clause-causes : goal.returns-then-count-ge-DISABLE_LIMIT-clause-causes
returns-then-count-ge-DISABLE_LIMIT-clause-causes g c = (at-then-count-ge-DISABLE_LIMIT g c).causes

pub returns-then-count-ge-DISABLE_LIMIT-clause-leads : goal.returns-then-count-ge-DISABLE_LIMIT-clause-leads
returns-then-count-ge-DISABLE_LIMIT-clause-leads g c start steps = leads_on start steps (at-then-count-ge-DISABLE_LIMIT g c)

at-end : (g : given.Over) (c : goal.After-set_disables g)
    → IsDisable (Ok (c.disables-count.result + 1)) c.args.self.now (shown_of (record (inner g.D.Disk.seen
    c.self.inside) { catalog = c.set_disables.new.self }))
at-end g c =
    let x : Inner = inner g.D.Disk.seen c.self.inside in
    subst (λ (v : Shown). IsDisable (Ok (c.disables-count.result + 1)) v (shown_of (record x {
      catalog =
          c.set_disables.new.self;
    }))) c.self.view_is
    (ok_disable x c.disables-count.result c.set_disables.new.self c.disables-count.ensures c.set_disables.ensures
    (omega (arith, c.if-count-ge-DISABLE_LIMIT.false)))

pub returns-clause-step : goal.returns-clause-step
returns-clause-step g c = (at-end g c).step

pub returns-clause-images : goal.returns-clause-images
returns-clause-images g c s good = (at-end g c).images s good

pub returns-clause-causes : goal.returns-clause-causes
returns-clause-causes g c = (at-end g c).causes

pub returns-clause-leads : goal.returns-clause-leads
returns-clause-leads g c start steps = leads_on start steps (at-end g c)
