use Rattle.lsm_refine.proofs.FoundLemmas.{found_leaves}
use Rattle.lsm_refine.proofs.life_laws.a_crash_leaves_what_was_found.Goals as goal

pub returns : goal.returns
returns c = found_leaves
