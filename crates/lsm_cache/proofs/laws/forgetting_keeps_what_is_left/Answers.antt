use Rattle.lsm_cache.proofs.Keeping.{left_are}
use Rattle.lsm_cache.proofs.laws.forgetting_keeps_what_is_left.Goals as goal

pub returns : goal.returns
returns c = left_are
