use Rattle.lsm_frame.proofs.Turns.{in_turn, all_in_turn}
use Rattle.lsm_frame.proofs.laws.records_come_in_turn.Goals as goal

pub returns-clause-next : goal.returns-clause-next
returns-clause-next c = in_turn

pub returns-clause-all : goal.returns-clause-all
returns-clause-all c = all_in_turn
