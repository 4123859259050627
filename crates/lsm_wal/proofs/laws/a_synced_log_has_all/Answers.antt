use Rattle.lsm_wal.proofs.Images.{synced_image}
use Rattle.lsm_wal.proofs.laws.a_synced_log_has_all.Goals as goal

pub returns : goal.returns
returns c = synced_image
