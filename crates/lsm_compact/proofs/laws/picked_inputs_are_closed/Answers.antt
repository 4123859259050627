use Rattle.lsm_compact.proofs.Picks.{picked_closed}
use Rattle.lsm_compact.proofs.laws.picked_inputs_are_closed.Goals as goal

pub returns : goal.returns
returns c = picked_closed
