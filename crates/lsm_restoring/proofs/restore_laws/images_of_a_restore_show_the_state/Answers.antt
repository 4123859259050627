use Rattle.lsm_restoring.proofs.RestoredImages.{restored_image, plain_shows, restored_call}
use Rattle.lsm_restoring.proofs.restore_laws.images_of_a_restore_show_the_state.Goals as goal

pub returns-clause-image : goal.returns-clause-image
returns-clause-image c = restored_image

pub returns-clause-run : goal.returns-clause-run
returns-clause-run c = plain_shows

pub returns-clause-call : goal.returns-clause-call
returns-clause-call c = restored_call
