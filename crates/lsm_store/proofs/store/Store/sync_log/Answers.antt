-- Each exit is a lemma of `Syncs`, at what the store held before the call.
use Rattle.std.specs.Prelude.{◌≡◌, None, Ok, Err}
use Rattle.std.proofs.Common.{subst}
use Rattle.lsm_model.specs.declared.errors.StoreError.TheVariants as error
use Rattle.lsm_refine.specs.Kept.{Shown}
use Rattle.lsm_store.specs.Inside.{Inner, shown_of}
use Rattle.lsm_store.proofs.Calls.{no_halt, leads_on}
use Rattle.lsm_store.specs.Fields.{inner}
use Rattle.lsm_store.proofs.Syncs.{IsSync, halted_sync, ok_sync, refused_sync}
use Rattle.lsm_store.proofs.store.Store.sync_log.Given as given
use Rattle.lsm_store.proofs.store.Store.sync_log.Goals as goal

at-in-Some : (g : given.Over) (c : goal.In-Some g)
    → IsSync (Err (error.Halted c.in-Some.first)) c.args.self.now c.args.self.now
at-in-Some g c =
    let x : Inner = inner g.D.Disk.seen c.self.inside in
    subst (λ (v : Shown). IsSync (Err (error.Halted c.in-Some.first)) v v) c.self.view_is
    (halted_sync x c.self.invariant c.in-Some.first c.in-Some.is)

pub returns-in-Some-clause-step : goal.returns-in-Some-clause-step
returns-in-Some-clause-step g c = (at-in-Some g c).step

pub returns-in-Some-clause-images : goal.returns-in-Some-clause-images
returns-in-Some-clause-images g c s good = (at-in-Some g c).images s good

pub returns-in-Some-clause-causes : goal.returns-in-Some-clause-causes
returns-in-Some-clause-causes g c = (at-in-Some g c).causes

pub returns-in-Some-clause-leads : goal.returns-in-Some-clause-leads
returns-in-Some-clause-leads g c start steps = leads_on start steps (at-in-Some g c)

at-in-Ok : (g : given.Over) (c : goal.In-Ok g)
    → IsSync (Ok tt) c.args.self.now (shown_of (record (inner g.D.Disk.seen c.self.inside) {
      disk = g.D.Disk.seen
          c.sync_file.new.disk;
    }))
at-in-Ok g c =
    let x : Inner = inner g.D.Disk.seen c.self.inside in
    let none : c.self.inside.halt ≡ None = no_halt c.self.inside.halt c.in_default.not-Some in
    subst (λ (v : Shown). IsSync (Ok tt) v (shown_of (record x { disk = g.D.Disk.seen c.sync_file.new.disk })))
    c.self.view_is
    (ok_sync x c.self.invariant none (g.D.Disk.seen c.sync_file.new.disk) c.path.result.now c.path.ensures
    c.in-Ok.ensures.made c.sync_file.ensures.cause.faults_later c.sync_file.ensures.cause.refusals_later)

pub returns-in-Ok-clause-step : goal.returns-in-Ok-clause-step
returns-in-Ok-clause-step g c = (at-in-Ok g c).step

pub returns-in-Ok-clause-images : goal.returns-in-Ok-clause-images
returns-in-Ok-clause-images g c s good = (at-in-Ok g c).images s good

pub returns-in-Ok-clause-causes : goal.returns-in-Ok-clause-causes
returns-in-Ok-clause-causes g c = (at-in-Ok g c).causes

pub returns-in-Ok-clause-leads : goal.returns-in-Ok-clause-leads
returns-in-Ok-clause-leads g c start steps = leads_on start steps (at-in-Ok g c)

at-in-Err : (g : given.Over) (c : goal.After-error_of g)
    → IsSync (Err c.error_of.result) c.args.self.now (shown_of (record (inner g.D.Disk.seen c.self.inside) {
      disk =
          g.D.Disk.seen c.sync_file.new.disk;
      halt = c.halt_of-self-inside.result;
    }))
at-in-Err g c =
    let x : Inner = inner g.D.Disk.seen c.self.inside in
    let none : c.self.inside.halt ≡ None = no_halt c.self.inside.halt c.in_default.not-Some in
    subst (λ (v : Shown). IsSync (Err c.error_of.result) v (shown_of (record x {
      disk = g.D.Disk.seen
          c.sync_file.new.disk;
      halt = c.halt_of-self-inside.result;
    }))) c.self.view_is
    (refused_sync x c.self.invariant none (g.D.Disk.seen c.sync_file.new.disk) c.in-Err.refused c.path.result.now
    c.halt_of-self-inside.result c.error_of.result c.path.ensures c.halt_of-self-inside.ensures c.error_of.ensures
    c.in-Err.ensures.refused (record {
      faults_later = c.sync_file.ensures.cause.faults_later;
      refusals_later =
          c.sync_file.ensures.cause.refusals_later;
      counted = c.in-Err.ensures.cause.counted;
    }))

pub returns-in-Err-clause-step : goal.returns-in-Err-clause-step
returns-in-Err-clause-step g c = (at-in-Err g c).step

pub returns-in-Err-clause-images : goal.returns-in-Err-clause-images
returns-in-Err-clause-images g c s good = (at-in-Err g c).images s good

pub returns-in-Err-clause-causes : goal.returns-in-Err-clause-causes
returns-in-Err-clause-causes g c = (at-in-Err g c).causes

pub returns-in-Err-clause-leads : goal.returns-in-Err-clause-leads
returns-in-Err-clause-leads g c start steps = leads_on start steps (at-in-Err g c)
