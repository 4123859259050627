use Rattle.std.proofs.Common.{arith}
use Rattle.lsm_block.proofs.EntryLists.{varint_longer, varint_small, varint_some}
use Rattle.lsm_block.proofs.writing.varint_len.Goals as goal
use Rattle.lsm_rows.proofs.BatchSizes.{one_byte}

pub overflow_add-len : goal.overflow_add-len
overflow_add-len c = omega (arith, c.loop-rest.invariant.0, varint_small c.args.number (omega arith), varint_some c.loop-rest.rest)

pub loop-rest-preserved : goal.loop-rest-preserved
loop-rest-preserved c = (omega (arith, c.loop-rest.invariant.0, varint_longer c.loop-rest.rest (omega arith)), omega (arith, c.loop-rest.invariant.1))

pub returns-clause-len : goal.returns-clause-len
returns-clause-len c = omega (arith, c.loop-rest.invariant.0, one_byte c.loop-rest.rest (omega arith))

pub returns-clause-small : goal.returns-clause-small
returns-clause-small c = omega (arith, c.loop-rest.invariant.0, one_byte c.loop-rest.rest (omega arith), varint_small c.args.number (omega arith))
