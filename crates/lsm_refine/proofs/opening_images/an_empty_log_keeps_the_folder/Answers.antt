use Rattle.lsm_refine.proofs.OpeningLog.{log_kept}
use Rattle.lsm_refine.proofs.opening_images.an_empty_log_keeps_the_folder.Goals as goal

pub returns : goal.returns
returns c = log_kept
