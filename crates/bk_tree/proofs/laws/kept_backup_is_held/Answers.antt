use Rattle.bk_tree.proofs.Keeping.{held_in_image}
use Rattle.bk_tree.proofs.laws.kept_backup_is_held.Goals as goal

pub returns : goal.returns
returns c s meta texts t kept image = held_in_image s t image meta texts kept
