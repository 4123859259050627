use Rattle.lsm_refine.proofs.NewLemmas.{new_good, new_listed}
use Rattle.lsm_refine.proofs.NewDiskLemmas.{new_there}
use Rattle.lsm_refine.proofs.laws.a_new_store_is_good.Goals as goal

pub returns-clause-good : goal.returns-clause-good
returns-clause-good c = new_good

pub returns-clause-listed : goal.returns-clause-listed
returns-clause-listed c = new_listed

pub returns-clause-some : goal.returns-clause-some
returns-clause-some c = new_there
