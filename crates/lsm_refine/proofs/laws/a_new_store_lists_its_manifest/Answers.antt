use Rattle.lsm_refine.proofs.NewLemmas.{new_lists}
use Rattle.lsm_refine.proofs.laws.a_new_store_lists_its_manifest.Goals as goal

pub returns : goal.returns
returns c = new_lists
