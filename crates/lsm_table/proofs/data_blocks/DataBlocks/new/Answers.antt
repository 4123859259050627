use Rattle.lsm_table.proofs.Cutting.{none_cut}
use Rattle.lsm_table.proofs.data_blocks.DataBlocks.new.Goals as goal

pub invariant_of-result : goal.invariant_of-result
invariant_of-result c = rw (c.new.ensures, c.new-2.ensures, c.new-3.ensures) none_cut
