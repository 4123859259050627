use Rattle.lsm_disk.proofs.Tree.{lawful_created, lawful_folder_made, lawful_appended}
use Rattle.lsm_disk.proofs.laws.lawful_after_made.Goals as goal

pub returns-clause-created : goal.returns-clause-created
returns-clause-created c = lawful_created

pub returns-clause-folder_made : goal.returns-clause-folder_made
returns-clause-folder_made c = lawful_folder_made

pub returns-clause-appended : goal.returns-clause-appended
returns-clause-appended c = lawful_appended
