use Rattle.lsm_refine.proofs.WithinStores.{pins_within, clear_within, jobs_within}
use Rattle.lsm_refine.proofs.within_laws.pins_and_checkpoints_stay.Goals as goal

pub returns-clause-pinned : goal.returns-clause-pinned
returns-clause-pinned c = pins_within

pub returns-clause-clear : goal.returns-clause-clear
returns-clause-clear c = clear_within

pub returns-clause-jobs : goal.returns-clause-jobs
returns-clause-jobs c = jobs_within
