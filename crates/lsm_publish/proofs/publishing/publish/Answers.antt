-- Each exit, by what the two functions left.
use Rattle.std.proofs.Common.{◌≡◌, Ok, Err}
use Rattle.std.specs.Prelude.{Option, None, ◌++◌, ◌∷◌, []}
use Rattle.lsm_disk.specs.Answers.{RefusesBy}
use Rattle.lsm_disk.specs.declared.calls.DiskError.{DiskError}
use Rattle.lsm_publish.proofs.Joining.{not_written, then_switched, not_switched}
use Rattle.lsm_publish.specs.Publishing.{Not_known, no_publishing}
use Rattle.lsm_publish.proofs.Answering.{longer_path, publish_answers, same_answer}
use Rattle.lsm_publish.proofs.publishing.publish.Goals as goal

pub returns-in_err-write_temporary-clause-went : goal.returns-in_err-write_temporary-clause-went
returns-in_err-write_temporary-clause-went g c story old tells still apart =
    not_written c.args.temporary.now c.args.path.now old _ c.args.bytes.now story c.from_residual.result c.in_err-write_temporary.field-0.0 c.from_residual.ensures.1
    (c.in_err-write_temporary.ensures.went story c.args.path.now old tells still apart)

pub returns-in_err-switch-clause-went : goal.returns-in_err-switch-clause-went
returns-in_err-switch-clause-went g c story old tells still apart =
    not_switched c.args.temporary.now c.args.path.now old _ c.args.bytes.now story c.from_residual-in_err-switch.result c.in_err-switch.field-0.0 c.from_residual-in_err-switch.ensures.1
    (then_switched c.args.temporary.now c.args.path.now old _ c.args.bytes.now story (Err c.in_err-switch.field-0.0) (c.in_ok-write_temporary.ensures.went story c.args.path.now old tells still apart)
    (λ mid tells-2 ready. c.in_err-switch.ensures.went mid old _ c.args.bytes.now tells-2 ready))

pub returns-clause-went : goal.returns-clause-went
returns-clause-went g c story old tells still apart =
    then_switched c.args.temporary.now c.args.path.now old _ c.args.bytes.now story (Ok tt) (c.in_ok-write_temporary.ensures.went story c.args.path.now old tells still apart)
    (λ mid tells-2 ready. c.in_ok-switch.ensures.went mid old _ c.args.bytes.now tells-2 ready)

pub returns-in_err-switch-clause-answer : goal.returns-in_err-switch-clause-answer
returns-in_err-switch-clause-answer g c =
    let temporary = c.args.temporary.now in
    same_answer (no_publishing temporary c.args.path.now) (g.D.Disk.seen c.args.disk.now) c.from_residual-in_err-switch.result c.in_err-switch.field-0.0 c.from_residual-in_err-switch.ensures.1
    (publish_answers temporary c.args.path.now c.args.bytes.now (λ (o : Option DiskError). RefusesBy o c.in_err-switch.field-0.0.why) _ _ c.in_ok-write_temporary.ensures.answer
    (λ story tells. c.in_ok-write_temporary.ensures.went story (temporary ++ 0 ∷ []) Not_known tells tt (longer_path temporary)) c.in_err-switch.ensures.answer)

pub returns-clause-answer : goal.returns-clause-answer
returns-clause-answer g c =
    let temporary = c.args.temporary.now in
    publish_answers temporary c.args.path.now c.args.bytes.now (λ (o : Option DiskError). o ≡ None) _ _ c.in_ok-write_temporary.ensures.answer
    (λ story tells. c.in_ok-write_temporary.ensures.went story (temporary ++ 0 ∷ []) Not_known tells tt (longer_path temporary)) c.in_ok-switch.ensures.answer
