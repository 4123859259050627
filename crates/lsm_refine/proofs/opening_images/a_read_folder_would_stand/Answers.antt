use Rattle.lsm_refine.proofs.OpeningGoesOn.{read_stands, read_fresh, may_stay, may_be_made}
use Rattle.lsm_refine.proofs.opening_images.a_read_folder_would_stand.Goals as goal

pub returns-clause-stands : goal.returns-clause-stands
returns-clause-stands c = read_stands

pub returns-clause-fresh : goal.returns-clause-fresh
returns-clause-fresh c = read_fresh

pub returns-clause-same : goal.returns-clause-same
returns-clause-same c = may_stay

pub returns-clause-new : goal.returns-clause-new
returns-clause-new c = may_be_made
