use Rattle.lsm_refine.proofs.NoFolderLemmas.{made_files, removed_files, made_clear, removed_clear}
use Rattle.lsm_refine.proofs.laws.made_and_removed_files_are_no_folders.Goals as goal

pub returns-clause-made : goal.returns-clause-made
returns-clause-made c = made_files

pub returns-clause-removed : goal.returns-clause-removed
returns-clause-removed c = removed_files

pub returns-clause-clear_made : goal.returns-clause-clear_made
returns-clause-clear_made c = made_clear

pub returns-clause-clear_removed : goal.returns-clause-clear_removed
returns-clause-clear_removed c = removed_clear
