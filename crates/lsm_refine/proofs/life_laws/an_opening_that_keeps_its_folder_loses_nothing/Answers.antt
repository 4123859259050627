use Rattle.lsm_refine.proofs.KeptLemmas.{kept_left, kept_loses_nothing}
use Rattle.lsm_refine.proofs.life_laws.an_opening_that_keeps_its_folder_loses_nothing.Goals as goal

pub returns-clause-image : goal.returns-clause-image
returns-clause-image c = kept_left

pub returns-clause-way : goal.returns-clause-way
returns-clause-way c = kept_loses_nothing
