use Rattle.lsm_manifest.proofs.Images.{named_image}
use Rattle.lsm_manifest.proofs.laws.an_installed_manifest_is_named.Goals as goal

pub returns : goal.returns
returns c = named_image
