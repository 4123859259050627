use Rattle.lsm_refine.proofs.NewStoreLemmas.{new_made}
use Rattle.lsm_refine.proofs.new_laws.a_new_store_is_made.Goals as goal

pub returns : goal.returns
returns c = new_made
