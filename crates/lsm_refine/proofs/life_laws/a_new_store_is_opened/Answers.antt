use Rattle.lsm_refine.proofs.ReopenLemmas.{new_opens}
use Rattle.lsm_refine.proofs.life_laws.a_new_store_is_opened.Goals as goal

pub returns : goal.returns
returns c = new_opens
