use Rattle.lsm_refine.proofs.PartsLemmas.{has_all, has_first}
use Rattle.lsm_refine.proofs.laws.a_running_store_has_its_parts.Goals as goal

pub returns-clause-now : goal.returns-clause-now
returns-clause-now c = has_all

pub returns-clause-images : goal.returns-clause-images
returns-clause-images c = has_first
