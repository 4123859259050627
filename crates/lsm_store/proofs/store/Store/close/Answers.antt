-- Each exit is a lemma of `Closes`, at what the store held before the call.
use Rattle.std.specs.Prelude.{◌≡◌, None, Ok, Err}
use Rattle.std.proofs.Common.{subst}
use Rattle.lsm_model.specs.declared.errors.StoreError.TheVariants as error
use Rattle.lsm_refine.specs.Kept.{Shown}
use Rattle.lsm_store.specs.Inside.{Inner}
use Rattle.lsm_store.proofs.Calls.{no_halt}
use Rattle.lsm_store.proofs.Closes.{IsClose, halted_close, ok_close, refused_close}
use Rattle.lsm_store.specs.Fields.{inner}
use Rattle.lsm_store.proofs.store.Store.close.Given as given
use Rattle.lsm_store.proofs.store.Store.close.Goals as goal

at-in-Some : (g : given.Over) (c : goal.After-drop-wal-inside g)
    → IsClose c.args.self (Err (error.Halted c.in-Some.first)) (g.D.Disk.seen c.close_tables.new.disk)
at-in-Some g c =
    let x : Inner = inner g.D.Disk.seen c.self.inside in
    subst (λ (v : Shown). IsClose v (Err (error.Halted c.in-Some.first)) (g.D.Disk.seen c.close_tables.new.disk))
    c.self.view_is
    (halted_close x c.self.invariant (g.D.Disk.seen c.close_tables.new.disk) c.close_tables.ensures c.in-Some.first
    c.in-Some.is)

pub returns-in-Some-clause-closes : goal.returns-in-Some-clause-closes
returns-in-Some-clause-closes g c = (at-in-Some g c).closes

pub returns-in-Some-clause-images : goal.returns-in-Some-clause-images
returns-in-Some-clause-images g c = (at-in-Some g c).images

pub returns-in-Some-clause-causes : goal.returns-in-Some-clause-causes
returns-in-Some-clause-causes g c = (at-in-Some g c).causes

at-in-Ok : (g : given.Over) (c : goal.After-drop-wal-inside-in-Ok g)
    → IsClose c.args.self (Ok tt) (g.D.Disk.seen c.sync_file.new.disk)
at-in-Ok g c =
    let x : Inner = inner g.D.Disk.seen c.self.inside in
    let none : c.self.inside.halt ≡ None = no_halt c.self.inside.halt c.in_default.not-Some in
    subst (λ (v : Shown). IsClose v (Ok tt) (g.D.Disk.seen c.sync_file.new.disk)) c.self.view_is
    (ok_close x c.self.invariant (g.D.Disk.seen c.close_tables.new.disk) c.close_tables.ensures none (g.D.Disk.seen
    c.sync_file.new.disk) c.path.result.now c.path.ensures c.sync_file.ensures.cause.faults_later
    c.sync_file.ensures.cause.refusals_later c.in-Ok.ensures.made)

pub returns-in-Ok-clause-closes : goal.returns-in-Ok-clause-closes
returns-in-Ok-clause-closes g c = (at-in-Ok g c).closes

pub returns-in-Ok-clause-images : goal.returns-in-Ok-clause-images
returns-in-Ok-clause-images g c = (at-in-Ok g c).images

pub returns-in-Ok-clause-causes : goal.returns-in-Ok-clause-causes
returns-in-Ok-clause-causes g c = (at-in-Ok g c).causes

at-end : (g : given.Over) (c : goal.After-drop-wal-inside-2 g)
    → IsClose c.args.self (Err c.error_of.result) (g.D.Disk.seen c.sync_file.new.disk)
at-end g c =
    let x : Inner = inner g.D.Disk.seen c.self.inside in
    let none : c.self.inside.halt ≡ None = no_halt c.self.inside.halt c.in_default.not-Some in
    subst (λ (v : Shown). IsClose v (Err c.error_of.result) (g.D.Disk.seen c.sync_file.new.disk)) c.self.view_is
    (refused_close x c.self.invariant (g.D.Disk.seen c.close_tables.new.disk) c.close_tables.ensures none
    (g.D.Disk.seen c.sync_file.new.disk) c.path.result.now c.path.ensures c.sync_file.ensures.cause.faults_later
    c.sync_file.ensures.cause.refusals_later c.in-Err.refused c.error_of.result c.error_of.ensures
    c.in-Err.ensures.refused (record {
      faults_later = c.sync_file.ensures.cause.faults_later;
      refusals_later =
          c.sync_file.ensures.cause.refusals_later;
      counted = c.in-Err.ensures.cause.counted;
    }))

pub returns-clause-closes : goal.returns-clause-closes
returns-clause-closes g c = (at-end g c).closes

pub returns-clause-images : goal.returns-clause-images
returns-clause-images g c = (at-end g c).images

pub returns-clause-causes : goal.returns-clause-causes
returns-clause-causes g c = (at-end g c).causes
