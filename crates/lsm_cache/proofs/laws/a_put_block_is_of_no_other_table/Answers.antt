use Rattle.lsm_cache.proofs.Keeping.{put_for_other}
use Rattle.lsm_cache.proofs.laws.a_put_block_is_of_no_other_table.Goals as goal

pub returns : goal.returns
returns c = put_for_other
