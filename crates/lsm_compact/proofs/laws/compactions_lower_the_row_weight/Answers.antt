use Rattle.lsm_compact.proofs.RowWeights.{rows_fall}
use Rattle.lsm_compact.proofs.laws.compactions_lower_the_row_weight.Goals as goal

pub returns : goal.returns
returns c = rows_fall
