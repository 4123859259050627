use Rattle.lsm_refine.proofs.LivesLemmas.{lives_none, crash_leads_on, giving_up_leads_on, closing_leads_on}
use Rattle.lsm_refine.proofs.life_laws.lives_lead_on.Goals as goal

pub returns-clause-none : goal.returns-clause-none
returns-clause-none c = lives_none

pub returns-clause-crash : goal.returns-clause-crash
returns-clause-crash c = crash_leads_on

pub returns-clause-closing : goal.returns-clause-closing
returns-clause-closing c = closing_leads_on

pub returns-clause-given_up : goal.returns-clause-given_up
returns-clause-given_up c = giving_up_leads_on
