use Rattle.lsm_refine.proofs.GoodLemmas.{good_now, good_image}
use Rattle.lsm_refine.proofs.laws.a_good_stores_folder_stands.Goals as goal

pub returns-clause-now : goal.returns-clause-now
returns-clause-now c = good_now

pub returns-clause-images : goal.returns-clause-images
returns-clause-images c = good_image
