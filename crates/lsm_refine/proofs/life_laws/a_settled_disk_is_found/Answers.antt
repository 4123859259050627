use Rattle.lsm_refine.proofs.FoundLemmas.{left_found}
use Rattle.lsm_refine.proofs.ReopenLemmas.{stands_found}
use Rattle.lsm_refine.proofs.life_laws.a_settled_disk_is_found.Goals as goal

pub returns-clause-left : goal.returns-clause-left
returns-clause-left c = left_found

pub returns-clause-stands : goal.returns-clause-stands
returns-clause-stands c = stands_found
