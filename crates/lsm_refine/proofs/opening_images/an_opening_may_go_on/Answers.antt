use Rattle.lsm_refine.proofs.OpeningGoesOn.{kept_both, kept_rest, kept_stands, way_loses}
use Rattle.lsm_refine.proofs.opening_images.an_opening_may_go_on.Goals as goal

pub returns-clause-both : goal.returns-clause-both
returns-clause-both c = kept_both

pub returns-clause-rest : goal.returns-clause-rest
returns-clause-rest c = kept_rest

pub returns-clause-stand : goal.returns-clause-stand
returns-clause-stand c = kept_stands

pub returns-clause-loses : goal.returns-clause-loses
returns-clause-loses c = way_loses
