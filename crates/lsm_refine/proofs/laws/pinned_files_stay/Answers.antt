use Rattle.lsm_refine.proofs.PinnedLemmas.{files_stay}
use Rattle.lsm_refine.proofs.laws.pinned_files_stay.Goals as goal

pub returns : goal.returns
returns c = files_stay
