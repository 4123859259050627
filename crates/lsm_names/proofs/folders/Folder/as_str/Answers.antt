use Rattle.std.proofs.Common.{arith}
use Rattle.lsm_names.proofs.FolderLemmas.{folder_is_component}
use Rattle.lsm_names.proofs.PathLemmas.{component_is_path, path_is_ascii}
use Rattle.lsm_names.proofs.folders.Folder.as_str.Goals as goal

pub as_str-requires : goal.as_str-requires
as_str-requires c =
    let name = c.self.inside.text in
    (omega arith, path_is_ascii name (component_is_path name (folder_is_component name c.self.invariant)))
