use Rattle.lsm_folder.proofs.AssembledLemmas.{assembled}
use Rattle.lsm_folder.proofs.laws.a_folder_reads_as_its_parts.Goals as goal

pub returns : goal.returns
returns c = assembled
