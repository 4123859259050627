use Rattle.lsm_refine.proofs.CutLemmas.{cut_listed}
use Rattle.lsm_refine.proofs.laws.a_cuts_files_stand.Goals as goal

pub returns : goal.returns
returns c = cut_listed
