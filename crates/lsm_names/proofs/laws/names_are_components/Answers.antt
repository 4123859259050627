use Rattle.lsm_names.proofs.FileNameLemmas.{spelled_is_component}
use Rattle.lsm_names.proofs.FolderLemmas.{folder_is_component}
use Rattle.lsm_names.proofs.SharedNameLemmas.{shared_is_component}
use Rattle.lsm_names.proofs.laws.names_are_components.Goals as goal

pub returns-clause-folder : goal.returns-clause-folder
returns-clause-folder c = folder_is_component

pub returns-clause-file : goal.returns-clause-file
returns-clause-file c = spelled_is_component

pub returns-clause-shared : goal.returns-clause-shared
returns-clause-shared c = shared_is_component
