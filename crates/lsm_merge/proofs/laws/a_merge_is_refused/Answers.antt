use Rattle.lsm_merge.proofs.Running.{run_stays}
use Rattle.lsm_merge.proofs.laws.a_merge_is_refused.Goals as goal

pub returns : goal.returns
returns g c = λ inputs given old new run keeps. run_stays g.R.RowSource.left inputs given old new run keeps
