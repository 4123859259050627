use Rattle.lsm_table.proofs.WholeTables.{refused_once}
use Rattle.lsm_table.proofs.laws.a_text_is_refused_in_one_way.Goals as goal

pub returns : goal.returns
returns c = refused_once
