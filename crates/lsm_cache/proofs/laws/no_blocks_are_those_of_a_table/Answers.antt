use Rattle.lsm_cache.proofs.Keeping.{none_are}
use Rattle.lsm_cache.proofs.laws.no_blocks_are_those_of_a_table.Goals as goal

pub returns : goal.returns
returns c = none_are
