use Rattle.lsm_disk.proofs.Now.{bytes_past_created, bytes_past_folder, bytes_past_appended}
use Rattle.lsm_disk.proofs.laws.bytes_of_others.Goals as goal

pub returns-clause-created : goal.returns-clause-created
returns-clause-created c = bytes_past_created

pub returns-clause-folder_made : goal.returns-clause-folder_made
returns-clause-folder_made c = bytes_past_folder

pub returns-clause-appended : goal.returns-clause-appended
returns-clause-appended c = bytes_past_appended
