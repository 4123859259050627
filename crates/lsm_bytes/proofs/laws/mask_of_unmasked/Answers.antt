use Rattle.lsm_bytes.proofs.Rotation.{masked-unmasked}
use Rattle.lsm_bytes.proofs.laws.mask_of_unmasked.Goals as goal

pub returns : goal.returns
returns c = masked-unmasked
