use Rattle.lsm_table.proofs.WholeTables.{never_refused}
use Rattle.lsm_table.proofs.laws.a_text_that_opens_is_not_refused.Goals as goal

pub returns : goal.returns
returns c = never_refused
