use Rattle.lsm_refine.proofs.UnpinSteps.{last_told}
use Rattle.lsm_refine.proofs.call_laws.the_last_sequence_is_told.Goals as goal

pub returns : goal.returns
returns c = last_told
