use Rattle.lsm_version.proofs.PlaceOrders.{places_are_all}
use Rattle.lsm_version.proofs.laws.places_are_all.Goals as goal

pub returns : goal.returns
returns c = places_are_all
