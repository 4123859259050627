use Rattle.lsm_table.proofs.BehindRows.{behind}
use Rattle.lsm_table.proofs.laws.a_row_with_a_later_key_may_be_added.Goals as goal

pub returns : goal.returns
returns c = behind
