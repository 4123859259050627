use Rattle.lsm_compact.proofs.Picks.{all_closed}
use Rattle.lsm_compact.proofs.laws.all_tables_are_closed.Goals as goal

pub returns : goal.returns
returns c = all_closed
