use Rattle.lsm_merge.proofs.Running.{run_ends}
use Rattle.lsm_merge.proofs.laws.a_merge_is_whole.Goals as goal

pub returns : goal.returns
returns g c = λ inputs given old new run over. run_ends g.R.RowSource.left inputs g.R.RowSource.ended given old new run over
