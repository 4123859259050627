use Rattle.lsm_folder.proofs.EditLemmas.{edit_only}
use Rattle.lsm_folder.proofs.laws.edits_are_read_back.Goals as goal

pub returns-clause-only : goal.returns-clause-only
returns-clause-only c = edit_only
