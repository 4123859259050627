use Rattle.lsm_publish.proofs.Switching.{whole_in}
use Rattle.lsm_publish.proofs.publishing.published_in_each_image.Goals as goal

pub returns : goal.returns
returns c s path id bytes t = whole_in path id bytes s t
