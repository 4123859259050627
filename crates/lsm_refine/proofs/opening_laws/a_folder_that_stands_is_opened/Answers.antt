use Rattle.lsm_refine.proofs.RecoveredOpenings.{recovered_opens}
use Rattle.lsm_refine.proofs.opening_laws.a_folder_that_stands_is_opened.Goals as goal

pub returns : goal.returns
returns c = recovered_opens
