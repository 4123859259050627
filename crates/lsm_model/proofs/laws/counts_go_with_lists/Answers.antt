use Rattle.lsm_model.proofs.CountLemmas.{step_counted, made_counted, run_counted, crashed_counted, opened_counted, closed_counted, restore_counted}
use Rattle.lsm_model.proofs.laws.counts_go_with_lists.Goals as goal

pub returns-clause-step : goal.returns-clause-step
returns-clause-step c = step_counted

pub returns-clause-call : goal.returns-clause-call
returns-clause-call c = made_counted

pub returns-clause-run : goal.returns-clause-run
returns-clause-run c = run_counted

pub returns-clause-crash : goal.returns-clause-crash
returns-clause-crash c = crashed_counted

pub returns-clause-opening : goal.returns-clause-opening
returns-clause-opening c = opened_counted

pub returns-clause-closing : goal.returns-clause-closing
returns-clause-closing c = closed_counted

pub returns-clause-restore : goal.returns-clause-restore
returns-clause-restore c = restore_counted
