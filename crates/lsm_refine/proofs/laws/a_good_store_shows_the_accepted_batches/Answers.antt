use Rattle.lsm_refine.proofs.ShownLemmas.{good_shows}
use Rattle.lsm_refine.proofs.laws.a_good_store_shows_the_accepted_batches.Goals as goal

pub returns : goal.returns
returns c = good_shows
