use Rattle.lsm_bytes.proofs.Rotation.{unmasked-masked}
use Rattle.lsm_bytes.proofs.laws.unmask_of_masked.Goals as goal

pub returns : goal.returns
returns c = unmasked-masked
