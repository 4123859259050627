use Rattle.lsm_refine.proofs.GrownLemmas.{grown_good, torn_good, append_went, append_shows}
use Rattle.lsm_refine.proofs.frame_laws.an_appended_batch_is_accepted.Goals as goal

pub returns-clause-good : goal.returns-clause-good
returns-clause-good c = grown_good

pub returns-clause-torn : goal.returns-clause-torn
returns-clause-torn c = torn_good

pub returns-clause-left : goal.returns-clause-left
returns-clause-left c = λ v s good run ops logged sync result told went. append_went v s good run ops logged sync result told went

pub returns-clause-images : goal.returns-clause-images
returns-clause-images c = λ v s good run ops logged sync result told went. append_shows v s good run ops logged sync result told went
