use Rattle.lsm_disk.proofs.Now.{bytes_created}
use Rattle.lsm_disk.proofs.laws.bytes_after_created.Goals as goal

pub returns : goal.returns
returns c = bytes_created
