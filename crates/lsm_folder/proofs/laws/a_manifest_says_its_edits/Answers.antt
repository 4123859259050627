use Rattle.lsm_folder.proofs.SaidLemmas.{manifest_only}
use Rattle.lsm_folder.proofs.laws.a_manifest_says_its_edits.Goals as goal

pub returns-clause-only : goal.returns-clause-only
returns-clause-only c = manifest_only
