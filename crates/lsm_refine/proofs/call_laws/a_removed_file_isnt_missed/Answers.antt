use Rattle.lsm_refine.proofs.DeleteSteps.{delete_halted, delete_disabled, delete_nothing, delete_removed, delete_fault, delete_shows}
use Rattle.lsm_refine.proofs.call_laws.a_removed_file_isnt_missed.Goals as goal

pub returns-clause-halted : goal.returns-clause-halted
returns-clause-halted c = delete_halted

pub returns-clause-disabled : goal.returns-clause-disabled
returns-clause-disabled c = delete_disabled

pub returns-clause-nothing : goal.returns-clause-nothing
returns-clause-nothing c = delete_nothing

pub returns-clause-removed : goal.returns-clause-removed
returns-clause-removed c = delete_removed

pub returns-clause-fault : goal.returns-clause-fault
returns-clause-fault c = delete_fault

pub returns-clause-images : goal.returns-clause-images
returns-clause-images c = delete_shows
