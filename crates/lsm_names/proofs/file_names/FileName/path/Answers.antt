use Rattle.lsm_names.proofs.FileNameLemmas.{spelled_is_component}
use Rattle.lsm_names.proofs.PathLemmas.{component_is_path}
use Rattle.lsm_names.specs.FileNames.{spelled}
use Rattle.lsm_names.proofs.file_names.FileName.path.Goals as goal

pub of_text-requires : goal.of_text-requires
of_text-requires c =
    let known = component_is_path (spelled c.args.self.now) (spelled_is_component c.args.self.now c.requires) in
    cc
