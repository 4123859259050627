use Rattle.lsm_compact.proofs.Applying.{goes_in}
use Rattle.lsm_compact.proofs.laws.edits_of_compactions_apply.Goals as goal

pub returns : goal.returns
returns c = goes_in
