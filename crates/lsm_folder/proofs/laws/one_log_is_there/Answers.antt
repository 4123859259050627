use Rattle.lsm_folder.proofs.TreeLemmas.{one_log_at}
use Rattle.lsm_folder.proofs.laws.one_log_is_there.Goals as goal

pub returns : goal.returns
returns c = one_log_at
