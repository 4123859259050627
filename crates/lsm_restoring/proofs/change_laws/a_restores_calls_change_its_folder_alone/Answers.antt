use Rattle.lsm_restoring.proofs.RestoredChanges.{only_none, only_folder, only_created, created_alone, only_written, plain_run}
use Rattle.lsm_restoring.proofs.change_laws.a_restores_calls_change_its_folder_alone.Goals as goal

pub returns-clause-none : goal.returns-clause-none
returns-clause-none c = only_none

pub returns-clause-folder : goal.returns-clause-folder
returns-clause-folder c = only_folder

pub returns-clause-created : goal.returns-clause-created
returns-clause-created c = only_created

pub returns-clause-created_alone : goal.returns-clause-created_alone
returns-clause-created_alone c = created_alone

pub returns-clause-written : goal.returns-clause-written
returns-clause-written c = only_written

pub returns-clause-run : goal.returns-clause-run
returns-clause-run c = plain_run
