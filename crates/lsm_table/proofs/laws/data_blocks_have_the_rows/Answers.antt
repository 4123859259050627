use Rattle.lsm_table.proofs.OrderedBlocks.{entries_are}
use Rattle.lsm_table.proofs.laws.data_blocks_have_the_rows.Goals as goal

pub returns : goal.returns
returns c = entries_are
