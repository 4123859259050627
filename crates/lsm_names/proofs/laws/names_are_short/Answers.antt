use Rattle.lsm_names.proofs.FileNameLemmas.{spelled_is_short}
use Rattle.lsm_names.proofs.FolderLemmas.{folder_is_short}
use Rattle.lsm_names.proofs.PathLemmas.{path_is_short, path_has_bytes}
use Rattle.lsm_names.proofs.laws.names_are_short.Goals as goal

pub returns-clause-path_has_bytes : goal.returns-clause-path_has_bytes
returns-clause-path_has_bytes c = path_has_bytes

pub returns-clause-path : goal.returns-clause-path
returns-clause-path c = path_is_short

pub returns-clause-folder : goal.returns-clause-folder
returns-clause-folder c = folder_is_short

pub returns-clause-file : goal.returns-clause-file
returns-clause-file c = spelled_is_short
