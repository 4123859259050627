use Rattle.lsm_model.proofs.Histories.{pin_stays, shown_stays}
use Rattle.lsm_model.proofs.laws.a_pin_keeps_what_it_was_given.Goals as goal

pub returns-clause-same : goal.returns-clause-same
returns-clause-same c = pin_stays

pub returns-clause-shown : goal.returns-clause-shown
returns-clause-shown c = shown_stays
