use Rattle.lsm_refine.proofs.FoundLemmas.{good_leaves, good_found}
use Rattle.lsm_refine.proofs.life_laws.a_good_store_leaves_its_state.Goals as goal

pub returns-clause-crash : goal.returns-clause-crash
returns-clause-crash c = good_leaves

pub returns-clause-given_up : goal.returns-clause-given_up
returns-clause-given_up c = good_found
