use Rattle.lsm_refine.proofs.OpeningBeside.{beside_kept}
use Rattle.lsm_refine.proofs.opening_images.a_new_file_beside_keeps_the_folder.Goals as goal

pub returns : goal.returns
returns c = beside_kept
