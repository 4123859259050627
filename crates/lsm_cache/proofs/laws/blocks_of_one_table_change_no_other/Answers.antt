use Rattle.lsm_cache.proofs.Keeping.{others_are}
use Rattle.lsm_cache.proofs.laws.blocks_of_one_table_change_no_other.Goals as goal

pub returns : goal.returns
returns c = others_are
