use Rattle.lsm_restoring.proofs.RestoreSteps.{fill_halted, fill_wanting, begun_lacks, begun_may, fill_ok, fill_failed}
use Rattle.lsm_restoring.proofs.step_laws.a_begun_folder_is_filled.Goals as goal

pub returns-clause-halted : goal.returns-clause-halted
returns-clause-halted c = fill_halted

pub returns-clause-wanting : goal.returns-clause-wanting
returns-clause-wanting c = fill_wanting

pub returns-clause-lacks : goal.returns-clause-lacks
returns-clause-lacks c = begun_lacks

pub returns-clause-may : goal.returns-clause-may
returns-clause-may c = begun_may

pub returns-clause-ok : goal.returns-clause-ok
returns-clause-ok c = fill_ok

pub returns-clause-failed : goal.returns-clause-failed
returns-clause-failed c = fill_failed
