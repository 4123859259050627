use Rattle.lsm_compact.proofs.Growing.{closed_more}
use Rattle.lsm_compact.proofs.laws.flushes_leave_inputs_closed.Goals as goal

pub returns : goal.returns
returns c = closed_more
