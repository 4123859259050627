use Rattle.lsm_compact.proofs.Keeping.{no_rows_made}
use Rattle.lsm_compact.proofs.laws.compactions_make_no_rows.Goals as goal

pub returns : goal.returns
returns c = no_rows_made
