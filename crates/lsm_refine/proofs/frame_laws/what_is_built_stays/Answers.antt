use Rattle.lsm_refine.proofs.OtherFileLemmas.{files_at, clear_at, restored_at, jobs_at}
use Rattle.lsm_refine.proofs.frame_laws.what_is_built_stays.Goals as goal

pub returns-clause-files : goal.returns-clause-files
returns-clause-files c = files_at

pub returns-clause-clear : goal.returns-clause-clear
returns-clause-clear c = clear_at

pub returns-clause-restored : goal.returns-clause-restored
returns-clause-restored c = restored_at

pub returns-clause-jobs : goal.returns-clause-jobs
returns-clause-jobs c = jobs_at
