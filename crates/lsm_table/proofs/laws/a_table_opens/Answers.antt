use Rattle.lsm_table.proofs.WholeTables.{table_opens}
use Rattle.lsm_table.proofs.laws.a_table_opens.Goals as goal

pub returns : goal.returns
returns c = table_opens
