use Rattle.lsm_block.proofs.Writings.{may_add_next}
use Rattle.tests_tables.proofs.block.rebuilt.Goals as goal

pub add-requires-clause-key : goal.add-requires-clause-key
add-requires-clause-key c =
    let m = may_add_next c.args.block.now c.entries-entry-items.result.now c.loop-entry.builder
    c.loop-entry.entry-index c.entry-item.result c.as_slice.result.now c.as_slice-in-loop-entry.result.now
    c.entries-entry-items.ensures.block.entries c.entries-entry-items.ensures.entries c.loop-entry.invariant
    c.loop-entry-test.true c.entry-item.is c.as_slice.ensures c.as_slice-in-loop-entry.ensures in
    m.0

pub add-requires-clause-past : goal.add-requires-clause-past
add-requires-clause-past c =
    let m = may_add_next c.args.block.now c.entries-entry-items.result.now c.loop-entry.builder
    c.loop-entry.entry-index c.entry-item.result c.as_slice.result.now c.as_slice-in-loop-entry.result.now
    c.entries-entry-items.ensures.block.entries c.entries-entry-items.ensures.entries c.loop-entry.invariant
    c.loop-entry-test.true c.entry-item.is c.as_slice.ensures c.as_slice-in-loop-entry.ensures in
    m.1

pub add-requires-clause-small : goal.add-requires-clause-small
add-requires-clause-small c =
    let m = may_add_next c.args.block.now c.entries-entry-items.result.now c.loop-entry.builder
    c.loop-entry.entry-index c.entry-item.result c.as_slice.result.now c.as_slice-in-loop-entry.result.now
    c.entries-entry-items.ensures.block.entries c.entries-entry-items.ensures.entries c.loop-entry.invariant
    c.loop-entry-test.true c.entry-item.is c.as_slice.ensures c.as_slice-in-loop-entry.ensures in
    m.2
