use Rattle.lsm_merge.proofs.Running.{run_grows}
use Rattle.lsm_merge.proofs.laws.a_merge_goes_on.Goals as goal

pub returns : goal.returns
returns g c = λ inputs given old new row run next. run_grows g.R.RowSource.left inputs given old new row run next
