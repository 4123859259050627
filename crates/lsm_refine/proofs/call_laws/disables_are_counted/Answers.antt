use Rattle.lsm_refine.proofs.UnpinSteps.{disable_ok, disable_full, enable_ok, enable_none}
use Rattle.lsm_refine.proofs.call_laws.disables_are_counted.Goals as goal

pub returns-clause-disabled : goal.returns-clause-disabled
returns-clause-disabled c = disable_ok

pub returns-clause-full : goal.returns-clause-full
returns-clause-full c = disable_full

pub returns-clause-enabled : goal.returns-clause-enabled
returns-clause-enabled c = enable_ok

pub returns-clause-none : goal.returns-clause-none
returns-clause-none c = enable_none
