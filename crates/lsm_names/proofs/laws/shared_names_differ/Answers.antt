use Rattle.lsm_names.proofs.SharedNameLemmas.{shared_injective}
use Rattle.lsm_names.proofs.laws.shared_names_differ.Goals as goal

pub returns : goal.returns
returns c = shared_injective
