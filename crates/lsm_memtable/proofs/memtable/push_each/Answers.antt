use Rattle.std.proofs.Common.{arith, take}
use Rattle.std.proofs.lemmas.List.{length-take-le}
use Rattle.lsm_memtable.proofs.Joins.{grown_none, past_grown, op_more, before_all}
use Rattle.lsm_memtable.proofs.memtable.push_each.Goals as goal

pub loop-op-init : goal.loop-op-init
loop-op-init c = (omega arith, grown_none c.args.first c.args.rows.now c.requires.past, c.requires.order)

pub push-requires-clause-past : goal.push-requires-clause-past
push-requires-clause-past c =
    let many = length-take-le c.loop-op.op-index c.args.ops.now (omega (arith, c.loop-op-test.true)) in
    past_grown c.args.first c.args.rows.now c.loop-op.rows (take c.loop-op.op-index c.args.ops.now) c.loop-op.sequence c.op-item.result c.in_ok-row_of.field-0 c.loop-op.invariant.1 (omega (arith, c.loop-op.invariant.0, many)) c.in_ok-row_of.ensures

pub loop-op-preserved : goal.loop-op-preserved
loop-op-preserved c = (
  omega (arith, c.loop-op.invariant.0),
  op_more c.args.first c.args.rows.now c.loop-op.rows c.push.new.self c.args.ops.now c.loop-op.op-index c.op-item.result c.loop-op.sequence c.in_ok-row_of.field-0 c.loop-op-test.true c.op-item.is c.loop-op.invariant.0 c.loop-op.invariant.1
      c.in_ok-push.ensures.ok c.in_ok-row_of.ensures,
  c.in_ok-push.ensures.order,
)

pub returns-clause-before : goal.returns-clause-before
returns-clause-before c = before_all c.args.first c.args.rows.now c.loop-op.rows c.args.ops.now c.loop-op.op-index c.loop-op.invariant.1 (omega arith)

pub returns-clause-undo : goal.returns-clause-undo
returns-clause-undo c = c.loop-op.invariant.1.kept
