use Rattle.lsm_compact.proofs.Listing.{orderly_own}
use Rattle.lsm_compact.proofs.laws.orderly_tables_have_own_sequences.Goals as goal

pub returns : goal.returns
returns c = orderly_own
