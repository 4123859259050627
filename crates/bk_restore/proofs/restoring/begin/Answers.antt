use Rattle.std.specs.Prelude.{length, Err}
use Rattle.std.proofs.Common.{sym, subst}
use Rattle.lsm_disk.specs.State.{state_of}
use Rattle.lsm_disk.specs.Goes.{Went}
use Rattle.lsm_disk.specs.Dest.{begin_calls}
use Rattle.lsm_disk.specs.Building.{IsWithin, HasNoCurrent}
use Rattle.lsm_disk.specs.declared.dest.DestError.{DestError}
use Rattle.bk_restore.specs.Refusals.{dest_answer}
use Rattle.bk_restore.specs.declared.errors.RestoreError.{RestoreError}
use Rattle.bk_restore.specs.Causes.{HasCauses, silent}
use Rattle.bk_restore.specs.Restored.{BeginsBy, IsBegunBy, TakesBy}
use Rattle.bk_restore.proofs.Causes.{later_same, dest_caused}
use Rattle.bk_restore.proofs.Beginning.{HaltedBy, begin_refused, begin_done, begin_halted, begin_takes, begun_by}
use Rattle.bk_restore.proofs.restoring.begin.Goals as goal

pub returns-in-Ok-clause-went : goal.returns-in-Ok-clause-went
returns-in-Ok-clause-went g c story tells = begin_done story c.args.dir.now (c.in-Ok.ensures.went story tells)

pub returns-in-Err-Exists-clause-went : goal.returns-in-Err-Exists-clause-went
returns-in-Err-Exists-clause-went g c story tells =
    subst (λ (why : DestError). Went story (g.T.Dest.seen c.begin.new.self).disk.told (IsWithin c.args.dir.now (length (state_of story).files)) (HasNoCurrent (state_of story) c.args.dir.now) (BeginsBy (state_of story) c.args.dir.now (Err (dest_answer c.args.dir.now why))))
    c.in-Err-Exists.field-0-is (begin_refused story c.args.dir.now c.in-Err-Exists.field-0 (c.in-Err-Exists.ensures.went story tells))

pub returns-in-Err-clause-halted : goal.returns-in-Err-clause-halted
returns-in-Err-clause-halted g c first =
    subst (λ (e : RestoreError). HaltedBy (g.T.Dest.seen c.args.dest.now).halt first (Err e)) (sym (c.dest_refused.ensures c.args.dir.now))
    (begin_halted (begin_calls c.args.dir.now) (g.T.Dest.seen c.args.dest.now) (g.T.Dest.seen c.begin.new.self) c.args.dir.now c.in-Err.why c.in-Err.ensures.halt first)

pub returns-in-Err-clause-taken : goal.returns-in-Err-clause-taken
returns-in-Err-clause-taken g c =
    subst (λ (e : RestoreError). TakesBy {T = Unit {0}} c.args.dir.now (g.T.Dest.seen c.args.dest.now).disk.told (Err e)) (sym (c.dest_refused.ensures c.args.dir.now))
    (begin_takes c.args.dir.now (g.T.Dest.seen c.args.dest.now) c.in-Err.why c.in-Err.ensures.taken)

pub returns-in-Err-clause-went : goal.returns-in-Err-clause-went
returns-in-Err-clause-went g c story tells =
    subst (λ (e : RestoreError). Went story (g.T.Dest.seen c.begin.new.self).disk.told (IsWithin c.args.dir.now (length (state_of story).files)) (HasNoCurrent (state_of story) c.args.dir.now) (BeginsBy (state_of story) c.args.dir.now (Err e)))
    (sym (c.dest_refused.ensures c.args.dir.now)) (begin_refused story c.args.dir.now c.in-Err.why (c.in-Err.ensures.went story tells))

pub returns-in-Err-clause-kind : goal.returns-in-Err-clause-kind
returns-in-Err-clause-kind g c = subst IsBegunBy (sym (c.dest_refused.ensures c.args.dir.now)) (begun_by c.args.dir.now c.in-Err.why)

pub returns-in-Err-clause-cause : goal.returns-in-Err-clause-cause
returns-in-Err-clause-cause g c =
    subst (λ (e : RestoreError). HasCauses {T = Unit {0}} silent silent (g.T.Dest.seen c.args.dest.now).disk (g.T.Dest.seen c.begin.new.self).disk (Err e)) (sym (c.dest_refused.ensures c.args.dir.now))
    (dest_caused (g.T.Dest.seen c.args.dest.now).disk (g.T.Dest.seen c.begin.new.self).disk silent silent c.args.dir.now c.in-Err.why (later_same silent) c.in-Err.ensures.cause)
