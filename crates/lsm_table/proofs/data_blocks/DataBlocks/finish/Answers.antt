use Rattle.std.proofs.Common.{arith}
use Rattle.lsm_block.specs.BlockText.{block_text}
use Rattle.lsm_table.proofs.Cutting.{some_begun, finish_text, finish_index, finish_place, fits_open, fits_ended, size-is, stored-len}
use Rattle.lsm_table.proofs.data_blocks.DataBlocks.finish.Goals as goal

pub overflow_add-result : goal.overflow_add-result
overflow_add-result c = omega (arith, c.self.invariant.small, size-is (record { begun = c.self.inside.begun; index = c.self.inside.index; pending = c.self.inside.pending; place = c.self.inside.place }), stored-len (block_text c.self.inside.begun), c.in_ok-len.ensures.len)

pub returns-clause-text : goal.returns-clause-text
returns-clause-text c =
    finish_text (record { begun = c.self.inside.begun; index = c.self.inside.index; pending = c.self.inside.pending; place = c.self.inside.place }) c.args.self c.end_open.new.pending c.self.view_is (some_begun c.is_empty.result c.self.inside.begun c.is_empty.ensures.1 c.if-is_empty.false) c.in_ok-len.ensures.pending

pub returns-clause-index : goal.returns-clause-index
returns-clause-index c =
    finish_index (record { begun = c.self.inside.begun; index = c.self.inside.index; pending = c.self.inside.pending; place = c.self.inside.place }) c.args.self c.end_open.new.index c.self.view_is (some_begun c.is_empty.result c.self.inside.begun c.is_empty.ensures.1 c.if-is_empty.false) c.in_ok-len.ensures.index

pub returns-clause-place : goal.returns-clause-place
returns-clause-place c =
    finish_place (record { begun = c.self.inside.begun; index = c.self.inside.index; pending = c.self.inside.pending; place = c.self.inside.place }) c.args.self c.in_ok-len.len c.self.view_is (some_begun c.is_empty.result c.self.inside.begun c.is_empty.ensures.1 c.if-is_empty.false) c.in_ok-len.ensures.len

pub returns-then-is_empty-clause-small : goal.returns-then-is_empty-clause-small
returns-then-is_empty-clause-small c = omega (arith, c.self.invariant.small, size-is (record { begun = c.self.inside.begun; index = c.self.inside.index; pending = c.self.inside.pending; place = c.self.inside.place }))

pub returns-clause-small : goal.returns-clause-small
returns-clause-small c = omega (arith, c.self.invariant.small, size-is (record { begun = c.self.inside.begun; index = c.self.inside.index; pending = c.self.inside.pending; place = c.self.inside.place }), stored-len (block_text c.self.inside.begun), c.in_ok-len.ensures.len)

pub returns-then-is_empty-clause-fits : goal.returns-then-is_empty-clause-fits
returns-then-is_empty-clause-fits c = fits_open (record { begun = c.self.inside.begun; index = c.self.inside.index; pending = c.self.inside.pending; place = c.self.inside.place }) c.self.invariant

pub returns-clause-fits : goal.returns-clause-fits
returns-clause-fits c =
    fits_ended (record { begun = c.self.inside.begun; index = c.self.inside.index; pending = c.self.inside.pending; place = c.self.inside.place }) c.end_open.new.index c.in_ok-len.len c.self.invariant (some_begun c.is_empty.result c.self.inside.begun c.is_empty.ensures.1 c.if-is_empty.false) c.in_ok-len.ensures.index c.in_ok-len.ensures.len
