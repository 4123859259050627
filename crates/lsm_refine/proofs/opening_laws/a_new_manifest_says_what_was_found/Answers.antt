use Rattle.lsm_refine.proofs.RecoveredRows.{says_found}
use Rattle.lsm_refine.proofs.opening_laws.a_new_manifest_says_what_was_found.Goals as goal

pub returns : goal.returns
returns c = says_found
