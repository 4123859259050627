use Rattle.lsm_names.proofs.FileNameLemmas.{spelled_injective}
use Rattle.lsm_names.proofs.laws.file_names_differ.Goals as goal

pub returns : goal.returns
returns c = spelled_injective
