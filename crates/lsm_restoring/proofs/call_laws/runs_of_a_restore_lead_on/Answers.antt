use Rattle.lsm_restoring.proofs.RestoreRuns.{leads_nowhere, leads_further}
use Rattle.lsm_restoring.proofs.call_laws.runs_of_a_restore_lead_on.Goals as goal

pub returns-clause-none : goal.returns-clause-none
returns-clause-none c = leads_nowhere

pub returns-clause-more : goal.returns-clause-more
returns-clause-more c = leads_further
