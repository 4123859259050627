use Rattle.lsm_disk.proofs.Now.{bytes_appended}
use Rattle.lsm_disk.proofs.laws.bytes_after_appended.Goals as goal

pub returns : goal.returns
returns c = bytes_appended
