use Rattle.lsm_folder.proofs.BlockLemmas.{block_only}
use Rattle.lsm_folder.proofs.laws.blocks_are_read_back.Goals as goal

pub returns-clause-only : goal.returns-clause-only
returns-clause-only c = block_only
