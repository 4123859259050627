use Rattle.bk_tree.proofs.Sparing.{backup_spared}
use Rattle.bk_tree.proofs.laws.kept_backup_stays.Goals as goal

pub returns : goal.returns
returns c s change meta texts = backup_spared s change meta texts
