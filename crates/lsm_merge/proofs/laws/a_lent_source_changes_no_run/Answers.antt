use Rattle.lsm_merge.proofs.Lending.{lent_stays}
use Rattle.lsm_merge.proofs.laws.a_lent_source_changes_no_run.Goals as goal

pub returns : goal.returns
returns g c = λ inputs given m place old new at same run. lent_stays g.R.RowSource.left m place old new at same inputs given run
