use Rattle.lsm_names.proofs.PathLemmas.{joined_is_path, parent_of_joined}
use Rattle.lsm_names.proofs.laws.joined_is_path.Goals as goal

pub returns-clause-path : goal.returns-clause-path
returns-clause-path c = joined_is_path

pub returns-clause-parent : goal.returns-clause-parent
returns-clause-parent c = parent_of_joined
