use Rattle.lsm_refine.proofs.OpeningCurrent.{current_whole}
use Rattle.lsm_refine.proofs.opening_images.what_was_found_is_whole.Goals as goal

pub returns : goal.returns
returns c = current_whole
