use Rattle.lsm_folder.proofs.PartsLemmas.{parts_stand}
use Rattle.lsm_folder.proofs.laws.a_folder_stands_as_its_parts.Goals as goal

pub returns : goal.returns
returns c = parts_stand
