use Rattle.lsm_refine.proofs.ReopenLemmas.{reopens}
use Rattle.lsm_refine.proofs.life_laws.what_a_crash_left_opens_again.Goals as goal

pub returns : goal.returns
returns c = reopens
