use Rattle.lsm_manifest.proofs.Images.{torn_image}
use Rattle.lsm_manifest.proofs.laws.an_image_has_the_edits.Goals as goal

pub returns : goal.returns
returns c = torn_image
