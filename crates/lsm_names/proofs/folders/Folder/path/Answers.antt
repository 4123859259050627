use Rattle.std.proofs.Common.{◌≡◌, true, arith}
use Rattle.lsm_names.specs.Folders.{is_folder_name}
use Rattle.lsm_names.proofs.FolderLemmas.{folder_is_short, folder_is_component}
use Rattle.lsm_names.proofs.PathLemmas.{component_is_path}
use Rattle.lsm_names.proofs.Roots.{in_root}
use Rattle.lsm_names.proofs.folders.Folder.path.Goals as goal

pub from_slice-requires : goal.from_slice-requires
from_slice-requires c =
    let name : is_folder_name c.as_bytes.result.now ≡ true = cc in
    (omega arith, omega (arith, folder_is_short c.as_bytes.result.now name))

pub of_text-requires : goal.of_text-requires
of_text-requires c =
    let known = component_is_path c.args.self.now (folder_is_component c.args.self.now c.as_bytes.ensures.folder) in
    cc

pub returns-clause-root : goal.returns-clause-root
returns-clause-root c = in_root c.args.self.now c.as_bytes.ensures.folder
