use Rattle.lsm_refine.proofs.UnpinSteps.{unpin_ok, unpin_unknown}
use Rattle.lsm_refine.proofs.call_laws.pins_end.Goals as goal

pub returns-clause-ok : goal.returns-clause-ok
returns-clause-ok c = unpin_ok

pub returns-clause-unknown : goal.returns-clause-unknown
returns-clause-unknown c = unpin_unknown
