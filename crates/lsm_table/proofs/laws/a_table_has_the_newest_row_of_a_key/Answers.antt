use Rattle.lsm_table.proofs.WholeSearches.{got_newest}
use Rattle.lsm_table.proofs.laws.a_table_has_the_newest_row_of_a_key.Goals as goal

pub returns : goal.returns
returns c = got_newest
