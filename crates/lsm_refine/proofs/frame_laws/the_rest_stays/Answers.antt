use Rattle.lsm_refine.proofs.BesideLemmas.{sane_beside, all_beside}
use Rattle.lsm_refine.proofs.frame_laws.the_rest_stays.Goals as goal

pub returns-clause-sane : goal.returns-clause-sane
returns-clause-sane c = sane_beside

pub returns-clause-good : goal.returns-clause-good
returns-clause-good c = all_beside
