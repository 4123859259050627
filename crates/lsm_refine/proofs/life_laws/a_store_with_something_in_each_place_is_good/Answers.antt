use Rattle.lsm_refine.proofs.WitnessGood.{its_listed, its_settled, its_reopening}
use Rattle.lsm_refine.proofs.life_laws.a_store_with_something_in_each_place_is_good.Goals as goal

pub returns-clause-good : goal.returns-clause-good
returns-clause-good c = its_listed

pub returns-clause-settled : goal.returns-clause-settled
returns-clause-settled c = its_settled

pub returns-clause-again : goal.returns-clause-again
returns-clause-again c = λ dir folders before w fits good. its_reopening dir fits folders before w good
