use Rattle.std.proofs.Common.{arith, length, ap, ◌∙◌}
use Rattle.lsm_names.proofs.FileNameLemmas.{spelled_is_short}
use Rattle.lsm_names.proofs.FolderLemmas.{folder_is_short, folder_is_component}
use Rattle.lsm_names.proofs.PathLemmas.{component_is_path}
use Rattle.lsm_names.proofs.folders.Folder.file.Goals as goal

pub joined-requires-clause-front : goal.joined-requires-clause-front
joined-requires-clause-front c =
    let known = component_is_path c.args.self.now (folder_is_component c.args.self.now c.as_bytes.ensures.folder) in
    cc

pub joined-requires-clause-fits : goal.joined-requires-clause-fits
joined-requires-clause-fits c =
    omega (
      arith,
      folder_is_short c.args.self.now c.as_bytes.ensures.folder,
      spelled_is_short c.args.name.now c.requires,
      ap length c.as_bytes.ensures.bytes,
      ap length (c.as_bytes-2.ensures.bytes ∙ c.path.ensures),
    )
