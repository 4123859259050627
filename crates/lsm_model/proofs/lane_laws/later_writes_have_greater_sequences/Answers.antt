use Rattle.lsm_model.proofs.RunLemmas.{write_answers, writes_rise}
use Rattle.lsm_model.proofs.lane_laws.later_writes_have_greater_sequences.Goals as goal

pub returns-clause-answer : goal.returns-clause-answer
returns-clause-answer c = write_answers

pub returns-clause-order : goal.returns-clause-order
returns-clause-order c = writes_rise
