use Rattle.std.proofs.Common.{arith}
use Rattle.lsm_names.proofs.FolderLemmas.{folder_is_short}
use Rattle.lsm_names.proofs.folders.Folder.parse.Goals as goal

pub from_slice-requires : goal.from_slice-requires
from_slice-requires c = (omega arith, folder_is_short c.args.text.now cc)
