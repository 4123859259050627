-- Each exit is a lemma of `Writes`, at what the store held before the call.
use Rattle.std.specs.Prelude.{◌≡◌, ℕ, ◌+◌, ◌^◌, ◌<◌, length, None, Ok, Err}
use Rattle.std.proofs.Common.{rules, refl, ap, subst, ◌∙◌, arith}
use Rattle.lsm_model.specs.declared.errors.StoreError.TheVariants as error
use Rattle.lsm_refine.specs.Kept.{Shown}
use Rattle.lsm_store.specs.Inside.{Inner, shown_of}
use Rattle.lsm_store.proofs.Calls.{no_halt, leads_on}
use Rattle.lsm_store.specs.Fields.{inner}
use Rattle.lsm_store.proofs.Insides.{flush_written, joined_short}
use Rattle.lsm_store.proofs.Writes.{IsWrite, halted_write, full_write, wanting_write, ok_write, refused_write}
use Rattle.lsm_store.proofs.store.Store.write.Given as given
use Rattle.lsm_store.proofs.store.Store.write.Goals as goal

at-in-Some : (g : given.Over) (c : goal.In-Some g)
    → IsWrite c.args.batch.now c.args.sync (Err (error.Halted c.in-Some.first)) c.args.self.now c.args.self.now
at-in-Some g c =
    let x : Inner = inner g.D.Disk.seen c.self.inside in
    subst (λ (v : Shown). IsWrite c.args.batch.now c.args.sync (Err (error.Halted c.in-Some.first)) v v)
    c.self.view_is
    (halted_write x c.self.invariant c.args.batch.now c.args.sync c.in-Some.first c.in-Some.is)

pub returns-in-Some-clause-step : goal.returns-in-Some-clause-step
returns-in-Some-clause-step g c = (at-in-Some g c).step

pub returns-in-Some-clause-images : goal.returns-in-Some-clause-images
returns-in-Some-clause-images g c s good = (at-in-Some g c).images s good

pub returns-in-Some-clause-causes : goal.returns-in-Some-clause-causes
returns-in-Some-clause-causes g c = (at-in-Some g c).causes

pub returns-in-Some-clause-leads : goal.returns-in-Some-clause-leads
returns-in-Some-clause-leads g c start steps = leads_on start steps (at-in-Some g c)

at-then-count-self : (g : given.Over) (c : goal.Then-count-self g)
    → IsWrite c.args.batch.now c.args.sync (Err (error.SequenceFull c.self.inside.sequence c.len-count.result))
    c.args.self.now c.args.self.now
at-then-count-self g c =
    let x : Inner = inner g.D.Disk.seen c.self.inside in
    let none : c.self.inside.halt ≡ None = no_halt c.self.inside.halt c.in_default.not-Some in
    subst (λ (v : Shown). IsWrite c.args.batch.now c.args.sync (Err (error.SequenceFull c.self.inside.sequence
    c.len-count.result)) v v) c.self.view_is
    (full_write x c.self.invariant c.args.batch.now c.args.sync none c.len-count.result c.len-count.ensures.len (omega
    (arith, c.if-count-self.true, c.self.invariant.small)))

pub returns-then-count-self-clause-step : goal.returns-then-count-self-clause-step
returns-then-count-self-clause-step g c = (at-then-count-self g c).step

pub returns-then-count-self-clause-images : goal.returns-then-count-self-clause-images
returns-then-count-self-clause-images g c s good = (at-then-count-self g c).images s good

pub returns-then-count-self-clause-causes : goal.returns-then-count-self-clause-causes
returns-then-count-self-clause-causes g c = (at-then-count-self g c).causes

pub returns-then-count-self-clause-leads : goal.returns-then-count-self-clause-leads
returns-then-count-self-clause-leads g c start steps = leads_on start steps (at-then-count-self g c)

at-then-len-ge-LOG_LIMIT : (g : given.Over) (c : goal.Then-len-ge-LOG_LIMIT g)
    → IsWrite c.args.batch.now c.args.sync (Err error.NoMemory) c.args.self.now c.args.self.now
at-then-len-ge-LOG_LIMIT g c =
    let x : Inner = inner g.D.Disk.seen c.self.inside in
    let none : c.self.inside.halt ≡ None = no_halt c.self.inside.halt c.in_default.not-Some in
    let small : c.self.inside.sequence + length c.args.batch.now < 2 ^ 56 = omega (
      arith,
      c.if-count-self.false,
      c.len-count.ensures.len,
      c.self.invariant.small,
    ) in
    subst (λ (v : Shown). IsWrite c.args.batch.now c.args.sync (Err error.NoMemory) v v) c.self.view_is
    (wanting_write x c.self.invariant c.args.batch.now c.args.sync none c.requires.some c.len-count.ensures.limits
    small c.self.inside.active refl)

pub returns-then-len-ge-LOG_LIMIT-clause-step : goal.returns-then-len-ge-LOG_LIMIT-clause-step
returns-then-len-ge-LOG_LIMIT-clause-step g c = (at-then-len-ge-LOG_LIMIT g c).step

pub returns-then-len-ge-LOG_LIMIT-clause-images : goal.returns-then-len-ge-LOG_LIMIT-clause-images
returns-then-len-ge-LOG_LIMIT-clause-images g c s good = (at-then-len-ge-LOG_LIMIT g c).images s good

pub returns-then-len-ge-LOG_LIMIT-clause-causes : goal.returns-then-len-ge-LOG_LIMIT-clause-causes
returns-then-len-ge-LOG_LIMIT-clause-causes g c = (at-then-len-ge-LOG_LIMIT g c).causes

pub returns-then-len-ge-LOG_LIMIT-clause-leads : goal.returns-then-len-ge-LOG_LIMIT-clause-leads
returns-then-len-ge-LOG_LIMIT-clause-leads g c start steps = leads_on start steps (at-then-len-ge-LOG_LIMIT g c)

at-in_default-add : (g : given.Over) (c : goal.In_default-add g)
    → IsWrite c.args.batch.now c.args.sync (Err error.NoMemory) c.args.self.now (shown_of (record (inner g.D.Disk.seen
    c.self.inside) { active = c.add.new.self }))
at-in_default-add g c =
    let x : Inner = inner g.D.Disk.seen c.self.inside in
    let none : c.self.inside.halt ≡ None = no_halt c.self.inside.halt c.in_default.not-Some in
    let small : c.self.inside.sequence + length c.args.batch.now < 2 ^ 56 = omega (
      arith,
      c.if-count-self.false,
      c.len-count.ensures.len,
      c.self.invariant.small,
    ) in
    subst (λ (v : Shown). IsWrite c.args.batch.now c.args.sync (Err error.NoMemory) v (shown_of (record x {
      active =
          c.add.new.self;
    }))) c.self.view_is
    (wanting_write x c.self.invariant c.args.batch.now c.args.sync none c.requires.some c.len-count.ensures.limits
    small c.add.new.self c.in_default-add.ensures.err)

pub returns-in_default-add-clause-step : goal.returns-in_default-add-clause-step
returns-in_default-add-clause-step g c = (at-in_default-add g c).step

pub returns-in_default-add-clause-images : goal.returns-in_default-add-clause-images
returns-in_default-add-clause-images g c s good = (at-in_default-add g c).images s good

pub returns-in_default-add-clause-causes : goal.returns-in_default-add-clause-causes
returns-in_default-add-clause-causes g c = (at-in_default-add g c).causes

pub returns-in_default-add-clause-leads : goal.returns-in_default-add-clause-leads
returns-in_default-add-clause-leads g c start steps = leads_on start steps (at-in_default-add g c)

at-in-Ok-append : (g : given.Over) (c : goal.After-self-1 g)
    → IsWrite c.args.batch.now c.args.sync (Ok (c.self.inside.sequence + c.len-count.result)) c.args.self.now
    (shown_of (record (inner g.D.Disk.seen c.self.inside) {
      disk = g.D.Disk.seen c.append.new.disk;
      wal =
          c.append.new.self;
      active = c.add.new.self;
      sequence = c.self.inside.sequence + c.len-count.result;
    }))
at-in-Ok-append g c =
    let x : Inner = inner g.D.Disk.seen c.self.inside in
    let none : c.self.inside.halt ≡ None = no_halt c.self.inside.halt c.in_default.not-Some in
    let small : c.self.inside.sequence + length c.args.batch.now < 2 ^ 56 = omega (
      arith,
      c.if-count-self.false,
      c.len-count.ensures.len,
      c.self.invariant.small,
    ) in
    subst (λ (v : Shown). IsWrite c.args.batch.now c.args.sync (Ok (c.self.inside.sequence + c.len-count.result)) v
    (shown_of (record x {
      disk = g.D.Disk.seen c.append.new.disk;
      wal = c.append.new.self;
      active = c.add.new.self;
      sequence = c.self.inside.sequence + c.len-count.result;
    }))) c.self.view_is
    (ok_write x c.self.invariant c.args.batch.now c.args.sync none c.requires.some c.len-count.ensures.limits small
    (g.D.Disk.seen c.append.new.disk) c.add.new.self c.append.new.self (c.self.inside.sequence + c.len-count.result)
    c.in-Ok-append.ensures.went c.append.ensures.cause.faults_later c.append.ensures.cause.refusals_later
    c.in-Ok.ensures.ok c.in-Ok-append.ensures.len (ap (λ (n : ℕ). c.self.inside.sequence + n)
    c.len-count.ensures.len))

pub returns-in-Ok-append-clause-step : goal.returns-in-Ok-append-clause-step
returns-in-Ok-append-clause-step g c = (at-in-Ok-append g c).step

pub returns-in-Ok-append-clause-images : goal.returns-in-Ok-append-clause-images
returns-in-Ok-append-clause-images g c s good = (at-in-Ok-append g c).images s good

pub returns-in-Ok-append-clause-causes : goal.returns-in-Ok-append-clause-causes
returns-in-Ok-append-clause-causes g c = (at-in-Ok-append g c).causes

pub returns-in-Ok-append-clause-leads : goal.returns-in-Ok-append-clause-leads
returns-in-Ok-append-clause-leads g c start steps = leads_on start steps (at-in-Ok-append g c)

at-in-Err : (g : given.Over) (c : goal.After-error_of g)
    → IsWrite c.args.batch.now c.args.sync (Err c.error_of.result) c.args.self.now (shown_of (record (inner
    g.D.Disk.seen c.self.inside) {
      disk = g.D.Disk.seen c.append.new.disk;
      wal = c.append.new.self;
      active =
          c.take_back.new.self;
      halt = c.halt_of-self-inside.result;
    }))
at-in-Err g c =
    let x : Inner = inner g.D.Disk.seen c.self.inside in
    let none : c.self.inside.halt ≡ None = no_halt c.self.inside.halt c.in_default.not-Some in
    let small : c.self.inside.sequence + length c.args.batch.now < 2 ^ 56 = omega (
      arith,
      c.if-count-self.false,
      c.len-count.ensures.len,
      c.self.invariant.small,
    ) in
    subst (λ (v : Shown). IsWrite c.args.batch.now c.args.sync (Err c.error_of.result) v (shown_of (record x {
      disk =
          g.D.Disk.seen c.append.new.disk;
      wal = c.append.new.self;
      active = c.take_back.new.self;
      halt =
          c.halt_of-self-inside.result;
    }))) c.self.view_is
    (refused_write x c.self.invariant c.args.batch.now c.args.sync none c.requires.some c.len-count.ensures.limits
    small (g.D.Disk.seen c.append.new.disk) c.in-Err.refused c.take_back.new.self c.append.new.self
    c.halt_of-self-inside.result c.error_of.result (c.take_back.ensures ∙ c.in-Ok.ensures.undo) c.in-Err.ensures.stays
    c.halt_of-self-inside.ensures c.error_of.ensures c.in-Err.ensures.went c.in-Err.ensures.refused
    c.in-Err.ensures.answer (record {
      faults_later = c.append.ensures.cause.faults_later;
      refusals_later =
          c.append.ensures.cause.refusals_later;
      counted = c.in-Err.ensures.cause.counted;
    }))

pub returns-in-Err-clause-step : goal.returns-in-Err-clause-step
returns-in-Err-clause-step g c = (at-in-Err g c).step

pub returns-in-Err-clause-images : goal.returns-in-Err-clause-images
returns-in-Err-clause-images g c s good = (at-in-Err g c).images s good

pub returns-in-Err-clause-causes : goal.returns-in-Err-clause-causes
returns-in-Err-clause-causes g c = (at-in-Err g c).causes

pub returns-in-Err-clause-leads : goal.returns-in-Err-clause-leads
returns-in-Err-clause-leads g c start steps = leads_on start steps (at-in-Err g c)

pub invariant_of-self-in-Ok-append : goal.invariant_of-self-in-Ok-append
invariant_of-self-in-Ok-append g c = record {
  path_is = search rules;
  manifest_in = c.self.invariant.manifest_in;
  manifest_is = c.self.invariant.manifest_is;
  before = search rules;
  small = omega (arith, c.if-count-self.false, c.len-count.ensures.len, c.self.invariant.small);
  one = c.self.invariant.one;
  drawn = c.self.invariant.drawn;
  most = c.self.invariant.most;
  below = c.self.invariant.below;
  fit = c.self.invariant.fit;
  jobs = c.self.invariant.jobs;
  flush = flush_written (inner g.D.Disk.seen c.self.inside) c.self.invariant c.add.new.self
      (joined_short c.self.inside.active c.add.new.self (c.self.inside.sequence + 1) c.args.batch.now
      c.self.invariant.flush.active_keys c.len-count.ensures.limits c.in-Ok.ensures.ok);
}
