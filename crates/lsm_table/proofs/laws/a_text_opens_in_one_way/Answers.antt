use Rattle.lsm_table.proofs.WholeTables.{opens_once}
use Rattle.lsm_table.proofs.laws.a_text_opens_in_one_way.Goals as goal

pub returns : goal.returns
returns c = opens_once
