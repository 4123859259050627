use Rattle.lsm_folder.proofs.StandingLemmas.{new_stands}
use Rattle.lsm_folder.proofs.laws.a_new_store_is_empty.Goals as goal

pub returns : goal.returns
returns c = new_stands
