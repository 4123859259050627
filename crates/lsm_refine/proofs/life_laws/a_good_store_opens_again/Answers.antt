use Rattle.lsm_refine.proofs.ReopenLemmas.{good_reopens}
use Rattle.lsm_refine.proofs.life_laws.a_good_store_opens_again.Goals as goal

pub returns : goal.returns
returns c = good_reopens
