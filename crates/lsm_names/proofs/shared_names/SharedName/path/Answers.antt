use Rattle.lsm_names.specs.SharedNames.{spelled_shared}
use Rattle.lsm_names.proofs.PathLemmas.{component_is_path}
use Rattle.lsm_names.proofs.SharedNameLemmas.{shared_is_component}
use Rattle.lsm_names.proofs.shared_names.SharedName.path.Goals as goal

pub of_text-requires : goal.of_text-requires
of_text-requires c =
    let known = component_is_path (spelled_shared c.args.self.now) (shared_is_component c.args.self.now c.spelling.ensures.named) in
    cc
