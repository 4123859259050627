use Rattle.lsm_refine.proofs.ReopenLemmas.{cut_off}
use Rattle.lsm_refine.proofs.life_laws.an_opening_cut_off_leaves_the_same.Goals as goal

pub returns : goal.returns
returns c = cut_off
