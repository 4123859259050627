use Rattle.std.proofs.Common.{◌*◌, ◌-◌, refl}
use Rattle.std.proofs.lemmas.Result.{err_from_is_err_and}
use Rattle.lsm_rows.proofs.ReadBatch.{bad_no_memory, read_step, op_bad}
use Rattle.lsm_rows.proofs.decoding.read_ops.Goals as goal

pub returns-in_err-op-clause-bad : goal.returns-in_err-op-clause-bad
returns-in_err-op-clause-bad c =
    let p = err_from_is_err_and c.from_residual.result c.from_residual.ensures.1 in
    rw (p.1, p.2) (op_bad c.args.bytes.now c.args.first c.args.count c.loop-done.done c.loop-done.ops.items c.loop-done.place (4194304 - c.loop-done.place - 2 * (c.args.count - c.loop-done.done - 1)) c.in_err-op.field-0.0 c.requires c.loop-done.invariant c.loop-done-test.true refl c.in_err-op.ensures.bad)

pub returns-in_err-push-clause-bad : goal.returns-in_err-push-clause-bad
returns-in_err-push-clause-bad c =
    let p = err_from_is_err_and c.from_residual-in_err-push.result c.from_residual-in_err-push.ensures.1 in
    rw (p.1, p.2) (bad_no_memory c.args.bytes.now _ refl)

pub loop-done-preserved : goal.loop-done-preserved
loop-done-preserved c =
    rw c.in_ok-push.ensures.items (read_step c.args.bytes.now c.args.first c.args.count c.loop-done.done c.loop-done.ops.items c.loop-done.place (4194304 - c.loop-done.place - 2 * (c.args.count - c.loop-done.done - 1)) c.in_ok-op.op c.in_ok-op.next c.loop-done.invariant c.loop-done-test.true refl c.in_ok-op.ensures.ok)
