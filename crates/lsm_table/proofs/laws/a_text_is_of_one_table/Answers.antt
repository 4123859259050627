use Rattle.lsm_table.proofs.OneTable.{table_once}
use Rattle.lsm_table.proofs.laws.a_text_is_of_one_table.Goals as goal

pub returns : goal.returns
returns c = table_once
