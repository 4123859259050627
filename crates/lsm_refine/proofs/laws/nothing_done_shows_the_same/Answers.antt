use Rattle.lsm_refine.proofs.MomentLemmas.{nothing_done}
use Rattle.lsm_refine.proofs.laws.nothing_done_shows_the_same.Goals as goal

pub returns : goal.returns
returns c = nothing_done
