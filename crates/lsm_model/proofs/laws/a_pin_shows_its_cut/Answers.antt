use Rattle.lsm_model.proofs.PinHistories.{cut_shown, begun_shown}
use Rattle.lsm_model.proofs.laws.a_pin_shows_its_cut.Goals as goal

pub returns-clause-cut : goal.returns-clause-cut
returns-clause-cut c = cut_shown

pub returns-clause-checkpoint : goal.returns-clause-checkpoint
returns-clause-checkpoint c = begun_shown
