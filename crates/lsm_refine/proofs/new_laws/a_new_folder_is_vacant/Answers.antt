use Rattle.lsm_refine.proofs.NewStoreLemmas.{new_vacant}
use Rattle.lsm_refine.proofs.new_laws.a_new_folder_is_vacant.Goals as goal

pub returns : goal.returns
returns c = new_vacant
