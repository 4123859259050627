use Rattle.lsm_restoring.proofs.RestoreSteps.{finish_halted, finish_wanting, finish_ok, finish_failed}
use Rattle.lsm_restoring.proofs.step_laws.a_begun_folder_is_finished.Goals as goal

pub returns-clause-halted : goal.returns-clause-halted
returns-clause-halted c = finish_halted

pub returns-clause-wanting : goal.returns-clause-wanting
returns-clause-wanting c = finish_wanting

pub returns-clause-ok : goal.returns-clause-ok
returns-clause-ok c = finish_ok

pub returns-clause-failed : goal.returns-clause-failed
returns-clause-failed c = finish_failed
