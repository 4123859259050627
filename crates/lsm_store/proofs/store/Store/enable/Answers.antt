-- Each exit is a lemma of `Counting`, at what the store held before the call.
use Rattle.std.specs.Prelude.{◌-◌, Ok, Err}
use Rattle.std.proofs.Common.{subst, arith}
use Rattle.lsm_model.specs.declared.errors.StoreError.TheVariants as error
use Rattle.lsm_refine.specs.Kept.{Shown}
use Rattle.lsm_store.specs.Inside.{Inner, shown_of}
use Rattle.lsm_store.proofs.Calls.{leads_on}
use Rattle.lsm_store.specs.Fields.{inner}
use Rattle.lsm_store.proofs.Counting.{IsEnable, ok_enable, none_enable}
use Rattle.lsm_store.proofs.store.Store.enable.Given as given
use Rattle.lsm_store.proofs.store.Store.enable.Goals as goal

at-then-count-eq0 : (g : given.Over) (c : goal.Then-count-eq0 g)
    → IsEnable (Err error.NotDisabled) c.args.self.now c.args.self.now
at-then-count-eq0 g c =
    let x : Inner = inner g.D.Disk.seen c.self.inside in
    subst (λ (v : Shown). IsEnable (Err error.NotDisabled) v v) c.self.view_is
    (none_enable x c.disables-count.result c.disables-count.ensures c.if-count-eq0.true)

pub returns-then-count-eq0-clause-step : goal.returns-then-count-eq0-clause-step
returns-then-count-eq0-clause-step g c = (at-then-count-eq0 g c).step

pub returns-then-count-eq0-clause-images : goal.returns-then-count-eq0-clause-images
returns-then-count-eq0-clause-images g c s good = (at-then-count-eq0 g c).images s good

pub returns-then-count-eq0-clause-causes : goal.returns-then-count-eq0-clause-causes
returns-then-count-eq0-clause-causes g c = (at-then-count-eq0 g c).causes

pub returns-then-count-eq0-clause-leads : goal.returns-then-count-eq0-clause-leads
returns-then-count-eq0-clause-leads g c start steps = leads_on start steps (at-then-count-eq0 g c)

at-end : (g : given.Over) (c : goal.After-set_disables g)
    → IsEnable (Ok (c.disables-count.result - 1)) c.args.self.now (shown_of (record (inner g.D.Disk.seen
    c.self.inside) { catalog = c.set_disables.new.self }))
at-end g c =
    let x : Inner = inner g.D.Disk.seen c.self.inside in
    subst (λ (v : Shown). IsEnable (Ok (c.disables-count.result - 1)) v (shown_of (record x {
      catalog =
          c.set_disables.new.self;
    }))) c.self.view_is
    (ok_enable x c.disables-count.result (c.disables-count.result - 1) c.set_disables.new.self
    c.disables-count.ensures c.set_disables.ensures (omega (arith, c.if-count-eq0.false)))

pub returns-clause-step : goal.returns-clause-step
returns-clause-step g c = (at-end g c).step

pub returns-clause-images : goal.returns-clause-images
returns-clause-images g c s good = (at-end g c).images s good

pub returns-clause-causes : goal.returns-clause-causes
returns-clause-causes g c = (at-end g c).causes

pub returns-clause-leads : goal.returns-clause-leads
returns-clause-leads g c start steps = leads_on start steps (at-end g c)
