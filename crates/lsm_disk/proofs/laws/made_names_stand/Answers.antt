use Rattle.lsm_disk.proofs.Now.{folder_made_stands, get_created, stands_past_folder, stands_past_file}
use Rattle.lsm_disk.proofs.laws.made_names_stand.Goals as goal

pub returns-clause-folder : goal.returns-clause-folder
returns-clause-folder c = folder_made_stands

pub returns-clause-file : goal.returns-clause-file
returns-clause-file c = get_created

pub returns-clause-past_folder : goal.returns-clause-past_folder
returns-clause-past_folder c = stands_past_folder

pub returns-clause-past_file : goal.returns-clause-past_file
returns-clause-past_file c = stands_past_file
