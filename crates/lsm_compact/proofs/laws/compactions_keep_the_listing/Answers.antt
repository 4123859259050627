use Rattle.lsm_compact.proofs.Levels.{listed_after}
use Rattle.lsm_compact.proofs.laws.compactions_keep_the_listing.Goals as goal

pub returns : goal.returns
returns c = listed_after
