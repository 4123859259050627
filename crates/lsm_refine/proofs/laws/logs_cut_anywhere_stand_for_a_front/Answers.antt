use Rattle.lsm_refine.proofs.TiedLemmas.{tied_reads}
use Rattle.lsm_refine.proofs.laws.logs_cut_anywhere_stand_for_a_front.Goals as goal

pub returns : goal.returns
returns c = λ parts s kept are tied enough. tied_reads parts s are tied kept enough
