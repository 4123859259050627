use Rattle.lsm_names.proofs.PathLemmas.{component_is_path, parent_of_component}
use Rattle.lsm_names.proofs.laws.component_is_path.Goals as goal

pub returns-clause-path : goal.returns-clause-path
returns-clause-path c = component_is_path

pub returns-clause-parent : goal.returns-clause-parent
returns-clause-parent c = parent_of_component
