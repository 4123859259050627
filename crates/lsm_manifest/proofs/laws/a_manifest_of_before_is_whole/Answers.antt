use Rattle.lsm_manifest.proofs.Images.{as_before}
use Rattle.lsm_manifest.proofs.laws.a_manifest_of_before_is_whole.Goals as goal

pub returns : goal.returns
returns c = as_before
