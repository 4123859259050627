-- Each exit is a lemma of `Counting`, at what the store held before the call.
use Rattle.std.specs.Prelude.{Ok, Err}
use Rattle.std.proofs.Common.{subst}
use Rattle.lsm_model.specs.declared.errors.StoreError.TheVariants as error
use Rattle.lsm_refine.specs.Kept.{Shown}
use Rattle.lsm_store.specs.Inside.{Inner, shown_of}
use Rattle.lsm_store.proofs.Calls.{leads_on}
use Rattle.lsm_store.specs.Fields.{inner}
use Rattle.lsm_store.proofs.Counting.{IsUnpin, unpinned_inside, ok_unpin, unknown_unpin}
use Rattle.lsm_store.proofs.store.Store.unpin.Given as given
use Rattle.lsm_store.proofs.store.Store.unpin.Goals as goal

at-then-not-unpin : (g : given.Over) (c : goal.Then-not-unpin g)
    → IsUnpin c.args.pin (Err (error.NoSuchPin c.args.pin)) c.args.self.now (shown_of (record (inner g.D.Disk.seen
    c.self.inside) { catalog = c.unpin.new.self }))
at-then-not-unpin g c =
    let x : Inner = inner g.D.Disk.seen c.self.inside in
    subst (λ (v : Shown). IsUnpin c.args.pin (Err (error.NoSuchPin c.args.pin)) v (shown_of (record x {
      catalog =
          c.unpin.new.self;
    }))) c.self.view_is
    (unknown_unpin x c.args.pin c.unpin.result c.unpin.new.self c.unpin.ensures.own c.unpin.ensures.kept
    c.if-not-unpin.true)

pub returns-then-not-unpin-clause-step : goal.returns-then-not-unpin-clause-step
returns-then-not-unpin-clause-step g c = (at-then-not-unpin g c).step

pub returns-then-not-unpin-clause-images : goal.returns-then-not-unpin-clause-images
returns-then-not-unpin-clause-images g c s good = (at-then-not-unpin g c).images s good

pub returns-then-not-unpin-clause-causes : goal.returns-then-not-unpin-clause-causes
returns-then-not-unpin-clause-causes g c = (at-then-not-unpin g c).causes

pub returns-then-not-unpin-clause-leads : goal.returns-then-not-unpin-clause-leads
returns-then-not-unpin-clause-leads g c start steps = leads_on start steps (at-then-not-unpin g c)

at-end : (g : given.Over) (c : goal.Else-not-unpin g)
    → IsUnpin c.args.pin (Ok tt) c.args.self.now (shown_of (record (inner g.D.Disk.seen c.self.inside) {
      catalog =
          c.unpin.new.self;
    }))
at-end g c =
    let x : Inner = inner g.D.Disk.seen c.self.inside in
    subst (λ (v : Shown). IsUnpin c.args.pin (Ok tt) v (shown_of (record x { catalog = c.unpin.new.self })))
    c.self.view_is
    (ok_unpin x c.args.pin c.unpin.result c.unpin.new.self c.unpin.ensures.own c.unpin.ensures.kept
    c.if-not-unpin.false)

pub returns-clause-step : goal.returns-clause-step
returns-clause-step g c = (at-end g c).step

pub returns-clause-images : goal.returns-clause-images
returns-clause-images g c s good = (at-end g c).images s good

pub returns-clause-causes : goal.returns-clause-causes
returns-clause-causes g c = (at-end g c).causes

pub returns-clause-leads : goal.returns-clause-leads
returns-clause-leads g c start steps = leads_on start steps (at-end g c)

pub invariant_of-self-2 : goal.invariant_of-self-2
invariant_of-self-2 g c = unpinned_inside (inner g.D.Disk.seen c.self.inside) c.self.invariant c.args.pin c.unpin.result
    c.unpin.new.self c.unpin.ensures.kept
