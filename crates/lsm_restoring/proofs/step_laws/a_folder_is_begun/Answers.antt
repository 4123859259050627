use Rattle.lsm_restoring.proofs.RestoreSteps.{begin_halted, begin_wanting, begin_taken, begin_failed, begin_may, begin_ok, begin_made}
use Rattle.lsm_restoring.proofs.step_laws.a_folder_is_begun.Goals as goal

pub returns-clause-halted : goal.returns-clause-halted
returns-clause-halted c = begin_halted

pub returns-clause-wanting : goal.returns-clause-wanting
returns-clause-wanting c = begin_wanting

pub returns-clause-taken : goal.returns-clause-taken
returns-clause-taken c = begin_taken

pub returns-clause-failed : goal.returns-clause-failed
returns-clause-failed c = begin_failed

pub returns-clause-may : goal.returns-clause-may
returns-clause-may c = begin_may

pub returns-clause-ok : goal.returns-clause-ok
returns-clause-ok c = begin_ok

pub returns-clause-made : goal.returns-clause-made
returns-clause-made c = begin_made
