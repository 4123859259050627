use Rattle.lsm_cache.proofs.Keeping.{put_for_table}
use Rattle.lsm_cache.proofs.laws.a_block_may_be_put_for_its_table.Goals as goal

pub returns : goal.returns
returns c = put_for_table
