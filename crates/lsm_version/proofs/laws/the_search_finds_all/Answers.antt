use Rattle.lsm_version.proofs.PlaceOrders.{the_search_finds_all}
use Rattle.lsm_version.proofs.laws.the_search_finds_all.Goals as goal

pub returns : goal.returns
returns c = the_search_finds_all
