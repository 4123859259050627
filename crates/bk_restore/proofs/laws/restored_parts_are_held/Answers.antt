use Rattle.bk_restore.proofs.Holding.{parts_held}
use Rattle.bk_restore.proofs.laws.restored_parts_are_held.Goals as goal

pub returns : goal.returns
returns c = parts_held
