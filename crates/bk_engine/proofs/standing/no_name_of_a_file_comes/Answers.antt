use Rattle.lsm_disk.specs.Kept.{InFile}
use Rattle.lsm_disk.specs.Building.{IsWithin}
use Rattle.bk_engine.specs.Leaving.{SparesFolder}
use Rattle.bk_engine.proofs.StandingNames.{just_no_name, file_leaves, folder_leaves}
use Rattle.bk_engine.proofs.standing.no_name_of_a_file_comes.Goals as goal

pub returns-clause-kind : goal.returns-clause-kind
returns-clause-kind c = λ dir story told id first none w. just_no_name dir id story told (SparesFolder dir first) (λ path c inside is. is.names path inside) none w

pub returns-clause-file : goal.returns-clause-file
returns-clause-file c = λ dir story told id other none w. just_no_name dir id story told (InFile other) (file_leaves dir other) none w

pub returns-clause-folder : goal.returns-clause-folder
returns-clause-folder c = λ dir other story told id first known fits differ none w. just_no_name dir id story told (IsWithin other first) (folder_leaves dir other first known fits differ) none w
