use Rattle.lsm_disk.proofs.Built.{built_whole}
use Rattle.lsm_disk.proofs.laws.built_folder_is_whole.Goals as goal

pub returns : goal.returns
returns c = built_whole
