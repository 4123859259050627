-- Each exit is a lemma of `Freezes`, at what the store held before the call.
use Rattle.std.specs.Prelude.{◌≡◌, ◌≢◌, ◌+◌, ◌-◌, ◌^◌, ◌<◌, true, false, List, [], length, None, Some, Ok, Err}
use Rattle.std.proofs.Common.{rules, ◌∙◌, inl, inr, ap, subst, arith}
use Rattle.lsm_names.specs.declared.file_names.FileName.{FileName}
use Rattle.lsm_names.specs.declared.file_names.FileName.TheVariants.{Log}
use Rattle.lsm_model.specs.declared.errors.StoreError.TheVariants as error
use Rattle.lsm_flush.specs.declared.frozen.Held.TheVariants.{Rows}
use Rattle.lsm_flush.specs.Frozen.{rows_of}
use Rattle.lsm_refine.specs.Kept.{Shown}
use Rattle.lsm_store.specs.Inside.{Inner, shown_of}
use Rattle.lsm_store.proofs.Calls.{no_halt, is_nothing, is_something, taken_back, leads_on}
use Rattle.lsm_store.specs.Fields.{inner}
use Rattle.lsm_store.proofs.Freezes.{file_number, IsFreeze, halted_freeze, idle_freeze, full_freeze, unsynced_freeze, unknown_freeze, ok_freeze, unmade_freeze}
use Rattle.lsm_store.proofs.Insides.{below_pushed, fit_pushed, flush_frozen}
use Rattle.lsm_store.proofs.store.Store.freeze.Given as given
use Rattle.lsm_store.proofs.store.Store.freeze.Goals as goal

at-in-Some : (g : given.Over) (c : goal.In-Some g)
    → IsFreeze (Err (error.Halted c.in-Some.first)) c.args.self.now c.args.self.now
at-in-Some g c =
    let x : Inner = inner g.D.Disk.seen c.self.inside in
    subst (λ (v : Shown). IsFreeze (Err (error.Halted c.in-Some.first)) v v) c.self.view_is
    (halted_freeze x c.self.invariant c.in-Some.first c.in-Some.is)

pub returns-in-Some-clause-step : goal.returns-in-Some-clause-step
returns-in-Some-clause-step g c = (at-in-Some g c).step

pub returns-in-Some-clause-images : goal.returns-in-Some-clause-images
returns-in-Some-clause-images g c s good = (at-in-Some g c).images s good

pub returns-in-Some-clause-causes : goal.returns-in-Some-clause-causes
returns-in-Some-clause-causes g c = (at-in-Some g c).causes

pub returns-in-Some-clause-leads : goal.returns-in-Some-clause-leads
returns-in-Some-clause-leads g c start steps = leads_on start steps (at-in-Some g c)

at-then-is_empty : (g : given.Over) (c : goal.Then-is_empty g)
    → IsFreeze (Ok false) c.args.self.now c.args.self.now
at-then-is_empty g c =
    let x : Inner = inner g.D.Disk.seen c.self.inside in
    let none : c.self.inside.halt ≡ None = no_halt c.self.inside.halt c.in_default.not-Some in
    subst (λ (v : Shown). IsFreeze (Ok false) v v) c.self.view_is
    (idle_freeze x c.self.invariant none (inl (is_nothing c.is_empty.result c.self.inside.active c.is_empty.ensures
    c.if-is_empty.true)))

pub returns-then-is_empty-clause-step : goal.returns-then-is_empty-clause-step
returns-then-is_empty-clause-step g c = (at-then-is_empty g c).step

pub returns-then-is_empty-clause-images : goal.returns-then-is_empty-clause-images
returns-then-is_empty-clause-images g c s good = (at-then-is_empty g c).images s good

pub returns-then-is_empty-clause-causes : goal.returns-then-is_empty-clause-causes
returns-then-is_empty-clause-causes g c = (at-then-is_empty g c).causes

pub returns-then-is_empty-clause-leads : goal.returns-then-is_empty-clause-leads
returns-then-is_empty-clause-leads g c start steps = leads_on start steps (at-then-is_empty g c)

at-then-not-is_empty : (g : given.Over) (c : goal.Then-not-is_empty g)
    → IsFreeze (Ok false) c.args.self.now c.args.self.now
at-then-not-is_empty g c =
    let x : Inner = inner g.D.Disk.seen c.self.inside in
    let none : c.self.inside.halt ≡ None = no_halt c.self.inside.halt c.in_default.not-Some in
    subst (λ (v : Shown). IsFreeze (Ok false) v v) c.self.view_is
    (idle_freeze x c.self.invariant none (inr (is_something c.is_empty-2.result (rows_of c.self.inside.frozen)
    c.is_empty-2.ensures.rows c.if-not-is_empty.true)))

pub returns-then-not-is_empty-clause-step : goal.returns-then-not-is_empty-clause-step
returns-then-not-is_empty-clause-step g c = (at-then-not-is_empty g c).step

pub returns-then-not-is_empty-clause-images : goal.returns-then-not-is_empty-clause-images
returns-then-not-is_empty-clause-images g c s good = (at-then-not-is_empty g c).images s good

pub returns-then-not-is_empty-clause-causes : goal.returns-then-not-is_empty-clause-causes
returns-then-not-is_empty-clause-causes g c = (at-then-not-is_empty g c).causes

pub returns-then-not-is_empty-clause-leads : goal.returns-then-not-is_empty-clause-leads
returns-then-not-is_empty-clause-leads g c start steps = leads_on start steps (at-then-not-is_empty g c)

at-then-self-ge-NUMBER_END : (g : given.Over) (c : goal.Then-self-ge-NUMBER_END g)
    → IsFreeze (Err (error.NumbersFull c.self.inside.next)) c.args.self.now c.args.self.now
at-then-self-ge-NUMBER_END g c =
    let x : Inner = inner g.D.Disk.seen c.self.inside in
    let none : c.self.inside.halt ≡ None = no_halt c.self.inside.halt c.in_default.not-Some in
    let some : c.self.inside.active ≢ [] = is_something c.is_empty.result c.self.inside.active c.is_empty.ensures
    c.if-is_empty.false in
    let no_frozen : rows_of c.self.inside.frozen ≡ [] = is_nothing c.is_empty-2.result (rows_of c.self.inside.frozen)
    c.is_empty-2.ensures.rows c.if-not-is_empty.false in
    subst (λ (v : Shown). IsFreeze (Err (error.NumbersFull c.self.inside.next)) v v) c.self.view_is
    (full_freeze x c.self.invariant none some no_frozen (omega (arith, c.if-self-ge-NUMBER_END.true)))

pub returns-then-self-ge-NUMBER_END-clause-step : goal.returns-then-self-ge-NUMBER_END-clause-step
returns-then-self-ge-NUMBER_END-clause-step g c = (at-then-self-ge-NUMBER_END g c).step

pub returns-then-self-ge-NUMBER_END-clause-images : goal.returns-then-self-ge-NUMBER_END-clause-images
returns-then-self-ge-NUMBER_END-clause-images g c s good = (at-then-self-ge-NUMBER_END g c).images s good

pub returns-then-self-ge-NUMBER_END-clause-causes : goal.returns-then-self-ge-NUMBER_END-clause-causes
returns-then-self-ge-NUMBER_END-clause-causes g c = (at-then-self-ge-NUMBER_END g c).causes

pub returns-then-self-ge-NUMBER_END-clause-leads : goal.returns-then-self-ge-NUMBER_END-clause-leads
returns-then-self-ge-NUMBER_END-clause-leads g c start steps = leads_on start steps (at-then-self-ge-NUMBER_END g c)

at-in-Err : (g : given.Over) (c : goal.After-error_of g)
    → IsFreeze (Err c.error_of.result) c.args.self.now (shown_of (record (inner g.D.Disk.seen c.self.inside) {
      disk =
          g.D.Disk.seen c.sync_file.new.disk;
      halt = c.halt_of-self-inside.result;
    }))
at-in-Err g c =
    let x : Inner = inner g.D.Disk.seen c.self.inside in
    let none : c.self.inside.halt ≡ None = no_halt c.self.inside.halt c.in_default.not-Some in
    let some : c.self.inside.active ≢ [] = is_something c.is_empty.result c.self.inside.active c.is_empty.ensures
    c.if-is_empty.false in
    let no_frozen : rows_of c.self.inside.frozen ≡ [] = is_nothing c.is_empty-2.result (rows_of c.self.inside.frozen)
    c.is_empty-2.ensures.rows c.if-not-is_empty.false in
    let small : c.self.inside.next < 2 ^ 56 - 1 = omega (arith, c.if-self-ge-NUMBER_END.false) in
    subst (λ (v : Shown). IsFreeze (Err c.error_of.result) v (shown_of (record x {
      disk = g.D.Disk.seen
          c.sync_file.new.disk;
      halt = c.halt_of-self-inside.result;
    }))) c.self.view_is
    (unsynced_freeze x c.self.invariant none some no_frozen small (g.D.Disk.seen c.sync_file.new.disk)
    c.in-Err.refused c.path.result.now c.halt_of-self-inside.result c.error_of.result c.path.ensures
    c.halt_of-self-inside.ensures c.error_of.ensures c.in-Err.ensures.refused (record {
      faults_later =
          c.sync_file.ensures.cause.faults_later;
      refusals_later = c.sync_file.ensures.cause.refusals_later;
      counted =
          c.in-Err.ensures.cause.counted;
    }))

pub returns-in-Err-clause-step : goal.returns-in-Err-clause-step
returns-in-Err-clause-step g c = (at-in-Err g c).step

pub returns-in-Err-clause-images : goal.returns-in-Err-clause-images
returns-in-Err-clause-images g c s good = (at-in-Err g c).images s good

pub returns-in-Err-clause-causes : goal.returns-in-Err-clause-causes
returns-in-Err-clause-causes g c = (at-in-Err g c).causes

pub returns-in-Err-clause-leads : goal.returns-in-Err-clause-leads
returns-in-Err-clause-leads g c start steps = leads_on start steps (at-in-Err g c)

at-in_default-push : (g : given.Over) (c : goal.In_default-push g)
    → IsFreeze (Err error.NoMemory) c.args.self.now (shown_of (record (inner g.D.Disk.seen c.self.inside) {
      disk =
          g.D.Disk.seen c.sync_file.new.disk;
      known = c.push.new.self.items;
    }))
at-in_default-push g c =
    let x : Inner = inner g.D.Disk.seen c.self.inside in
    let none : c.self.inside.halt ≡ None = no_halt c.self.inside.halt c.in_default.not-Some in
    let some : c.self.inside.active ≢ [] = is_something c.is_empty.result c.self.inside.active c.is_empty.ensures
    c.if-is_empty.false in
    let no_frozen : rows_of c.self.inside.frozen ≡ [] = is_nothing c.is_empty-2.result (rows_of c.self.inside.frozen)
    c.is_empty-2.ensures.rows c.if-not-is_empty.false in
    let small : c.self.inside.next < 2 ^ 56 - 1 = omega (arith, c.if-self-ge-NUMBER_END.false) in
    subst (λ (v : Shown). IsFreeze (Err error.NoMemory) v (shown_of (record x {
      disk = g.D.Disk.seen
          c.sync_file.new.disk;
      known = c.push.new.self.items;
    }))) c.self.view_is
    (unknown_freeze x c.self.invariant none some no_frozen small (g.D.Disk.seen c.sync_file.new.disk)
    c.path.result.now c.path.ensures c.in_default-sync_file.ensures.made c.sync_file.ensures.cause.faults_later
    c.sync_file.ensures.cause.refusals_later c.sync_file.ensures.lawful c.push.new.self.items
    c.in_default-push.ensures.items)

pub returns-in_default-push-clause-step : goal.returns-in_default-push-clause-step
returns-in_default-push-clause-step g c = (at-in_default-push g c).step

pub returns-in_default-push-clause-images : goal.returns-in_default-push-clause-images
returns-in_default-push-clause-images g c s good = (at-in_default-push g c).images s good

pub returns-in_default-push-clause-causes : goal.returns-in_default-push-clause-causes
returns-in_default-push-clause-causes g c = (at-in_default-push g c).causes

pub returns-in_default-push-clause-leads : goal.returns-in_default-push-clause-leads
returns-in_default-push-clause-leads g c start steps = leads_on start steps (at-in_default-push g c)

at-in-Ok-create : (g : given.Over) (c : goal.After-hold g)
    → IsFreeze (Ok true) c.args.self.now (shown_of (record (inner g.D.Disk.seen c.self.inside) {
      disk = g.D.Disk.seen
          c.create.new.disk;
      wal = c.in-Ok-create.wal;
      log = c.self.inside.next;
      older = Some c.self.inside.log;
      older_len =
          c.len-self-inside.result;
      active = c.replace-rows.new.dest;
      frozen = c.hold.new.self;
      next = c.self.inside.next + 1;
      known = c.push.new.self.items;
    }))
at-in-Ok-create g c =
    let x : Inner = inner g.D.Disk.seen c.self.inside in
    let none : c.self.inside.halt ≡ None = no_halt c.self.inside.halt c.in_default.not-Some in
    let some : c.self.inside.active ≢ [] = is_something c.is_empty.result c.self.inside.active c.is_empty.ensures
    c.if-is_empty.false in
    let no_frozen : rows_of c.self.inside.frozen ≡ [] = is_nothing c.is_empty-2.result (rows_of c.self.inside.frozen)
    c.is_empty-2.ensures.rows c.if-not-is_empty.false in
    let small : c.self.inside.next < 2 ^ 56 - 1 = omega (arith, c.if-self-ge-NUMBER_END.false) in
    subst (λ (v : Shown). IsFreeze (Ok true) v (shown_of (record x {
      disk = g.D.Disk.seen c.create.new.disk;
      wal =
          c.in-Ok-create.wal;
      log = c.self.inside.next;
      older = Some c.self.inside.log;
      older_len =
          c.len-self-inside.result;
      active = c.replace-rows.new.dest;
      frozen = c.hold.new.self;
      next = c.self.inside.next + 1;
      known = c.push.new.self.items;
    }))) c.self.view_is
    (ok_freeze x c.self.invariant none some no_frozen small (g.D.Disk.seen c.sync_file.new.disk) c.path.result.now
    c.path.ensures c.in_default-sync_file.ensures.made c.sync_file.ensures.cause.faults_later
    c.sync_file.ensures.cause.refusals_later c.sync_file.ensures.lawful (g.D.Disk.seen c.create.new.disk)
    c.file-path.result c.file-path.ensures c.create.ensures.cause.faults_later c.create.ensures.cause.refusals_later
    (Unit {0}) tt c.in-Ok-create.wal c.push.new.self.items c.len-self-inside.result c.new.result c.replace-rows.new.dest
    c.hold.new.self c.in-Ok-create.ensures.went c.in-Ok-create.ensures.log c.in-Ok.ensures.items
    c.len-self-inside.ensures c.replace-rows.ensures.after c.new.ensures (c.hold.ensures ∙ ap Rows c.replace-rows.ensures.value)
    (c.is_empty-2.ensures.idle.0 c.if-not-is_empty.false))

pub returns-in-Ok-create-clause-step : goal.returns-in-Ok-create-clause-step
returns-in-Ok-create-clause-step g c = (at-in-Ok-create g c).step

pub returns-in-Ok-create-clause-images : goal.returns-in-Ok-create-clause-images
returns-in-Ok-create-clause-images g c s good = (at-in-Ok-create g c).images s good

pub returns-in-Ok-create-clause-causes : goal.returns-in-Ok-create-clause-causes
returns-in-Ok-create-clause-causes g c = (at-in-Ok-create g c).causes

pub returns-in-Ok-create-clause-leads : goal.returns-in-Ok-create-clause-leads
returns-in-Ok-create-clause-leads g c start steps = leads_on start steps (at-in-Ok-create g c)

at-in-Err-create : (g : given.Over) (c : goal.After-error_of-in-Err-create g)
    → IsFreeze (Err c.error_of-in-Err-create.result) c.args.self.now (shown_of (record (inner g.D.Disk.seen
    c.self.inside) {
      disk = g.D.Disk.seen c.create.new.disk;
      known = c.truncate.new.self.items;
      halt =
          c.halt_of-self-inside-in-Err-create.result;
    }))
at-in-Err-create g c =
    let x : Inner = inner g.D.Disk.seen c.self.inside in
    let none : c.self.inside.halt ≡ None = no_halt c.self.inside.halt c.in_default.not-Some in
    let some : c.self.inside.active ≢ [] = is_something c.is_empty.result c.self.inside.active c.is_empty.ensures
    c.if-is_empty.false in
    let no_frozen : rows_of c.self.inside.frozen ≡ [] = is_nothing c.is_empty-2.result (rows_of c.self.inside.frozen)
    c.is_empty-2.ensures.rows c.if-not-is_empty.false in
    let small : c.self.inside.next < 2 ^ 56 - 1 = omega (arith, c.if-self-ge-NUMBER_END.false) in
    subst (λ (v : Shown). IsFreeze (Err c.error_of-in-Err-create.result) v (shown_of (record x {
      disk = g.D.Disk.seen
          c.create.new.disk;
      known = c.truncate.new.self.items;
      halt = c.halt_of-self-inside-in-Err-create.result;
    })))
    c.self.view_is
    (unmade_freeze x c.self.invariant none some no_frozen small (g.D.Disk.seen c.sync_file.new.disk) c.path.result.now
    c.path.ensures c.in_default-sync_file.ensures.made c.sync_file.ensures.cause.faults_later
    c.sync_file.ensures.cause.refusals_later c.sync_file.ensures.lawful (g.D.Disk.seen c.create.new.disk)
    c.file-path.result c.file-path.ensures c.create.ensures.cause.faults_later c.create.ensures.cause.refusals_later
    c.in-Err-create.refused c.halt_of-self-inside-in-Err-create.result c.truncate.new.self.items
    c.error_of-in-Err-create.result c.halt_of-self-inside-in-Err-create.ensures (taken_back (length
    c.as_slice-count.result.now) c.self.inside.known.items c.push.new.self.items c.truncate.new.self.items (Log
    c.self.inside.next) (ap (λ (l : List FileName). length l) c.as_slice-count.ensures.value) c.in-Ok.ensures.items
    c.truncate.ensures.items) c.error_of-in-Err-create.ensures c.in-Err-create.ensures.went
    c.in-Err-create.ensures.refused c.in-Err-create.ensures.answer c.in-Err-create.ensures.cause.counted)

pub returns-in-Err-create-clause-step : goal.returns-in-Err-create-clause-step
returns-in-Err-create-clause-step g c = (at-in-Err-create g c).step

pub returns-in-Err-create-clause-images : goal.returns-in-Err-create-clause-images
returns-in-Err-create-clause-images g c s good = (at-in-Err-create g c).images s good

pub returns-in-Err-create-clause-causes : goal.returns-in-Err-create-clause-causes
returns-in-Err-create-clause-causes g c = (at-in-Err-create g c).causes

pub returns-in-Err-create-clause-leads : goal.returns-in-Err-create-clause-leads
returns-in-Err-create-clause-leads g c start steps = leads_on start steps (at-in-Err-create g c)

pub invariant_of-self-in-Ok-create : goal.invariant_of-self-in-Ok-create
invariant_of-self-in-Ok-create g c = record {
  path_is = search rules;
  manifest_in = c.self.invariant.manifest_in;
  manifest_is = c.self.invariant.manifest_is;
  before = search rules;
  small = c.self.invariant.small;
  one = search rules;
  drawn = omega arith;
  most = omega (arith, c.if-self-ge-NUMBER_END.false);
  below = below_pushed c.self.inside.next c.self.inside.known.items c.push.new.self.items (Log c.self.inside.next)
      c.self.invariant.below (omega arith) c.in-Ok.ensures.items;
  jobs = c.self.invariant.jobs;
  fit = fit_pushed c.self.inside.known.items c.push.new.self.items (Log c.self.inside.next) c.self.invariant.fit
      (file_number c.self.inside.next c.self.invariant.drawn (omega (arith, c.if-self-ge-NUMBER_END.false)))
      c.in-Ok.ensures.items;
  flush = flush_frozen (inner g.D.Disk.seen c.self.inside) c.self.invariant (omega (arith, c.if-self-ge-NUMBER_END.false))
      c.replace-rows.new.dest c.new.result c.replace-rows.result c.hold.new.self c.replace-rows.ensures.after c.new.ensures c.hold.ensures
      c.replace-rows.ensures.value;
}
