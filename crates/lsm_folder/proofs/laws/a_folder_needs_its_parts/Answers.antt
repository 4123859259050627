use Rattle.lsm_folder.proofs.AssembledLemmas.{needed_are}
use Rattle.lsm_folder.proofs.laws.a_folder_needs_its_parts.Goals as goal

pub returns : goal.returns
returns c = needed_are
