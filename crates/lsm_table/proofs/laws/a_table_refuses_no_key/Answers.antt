use Rattle.lsm_table.proofs.WholeSearches.{not_got_outside}
use Rattle.lsm_table.proofs.laws.a_table_refuses_no_key.Goals as goal

pub returns : goal.returns
returns c = not_got_outside
