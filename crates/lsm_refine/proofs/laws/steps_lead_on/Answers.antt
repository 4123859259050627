use Rattle.lsm_refine.proofs.LeadsLemmas.{leads_none, leads_more, leads_call}
use Rattle.lsm_refine.proofs.laws.steps_lead_on.Goals as goal

pub returns-clause-none : goal.returns-clause-none
returns-clause-none c = leads_none

pub returns-clause-step : goal.returns-clause-step
returns-clause-step c = leads_more

pub returns-clause-call : goal.returns-clause-call
returns-clause-call c = leads_call
