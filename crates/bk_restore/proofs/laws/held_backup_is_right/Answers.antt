use Rattle.bk_restore.proofs.Whole.{held_right}
use Rattle.bk_restore.proofs.laws.held_backup_is_right.Goals as goal

pub returns : goal.returns
returns c = held_right
