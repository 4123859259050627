use Rattle.lsm_compact.proofs.Listing.{listed_orderly}
use Rattle.lsm_compact.proofs.laws.listed_tables_are_orderly.Goals as goal

pub returns : goal.returns
returns c = listed_orderly
