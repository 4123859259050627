use Rattle.lsm_cache.proofs.Keeping.{stays_are}
use Rattle.lsm_cache.proofs.laws.a_table_that_stays_keeps_its_blocks.Goals as goal

pub returns : goal.returns
returns c = stays_are
