use Rattle.lsm_disk.proofs.Built.{folder_lacks, free_lacks}
use Rattle.lsm_disk.proofs.laws.begun_folder_lacks_current.Goals as goal

pub returns-clause-begun : goal.returns-clause-begun
returns-clause-begun c = folder_lacks

pub returns-clause-free : goal.returns-clause-free
returns-clause-free c = free_lacks
