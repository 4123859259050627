use Rattle.lsm_refine.proofs.ListedLemmas.{listed_stand}
use Rattle.lsm_refine.proofs.cause_laws.listed_files_stand.Goals as goal

pub returns : goal.returns
returns c = listed_stand
