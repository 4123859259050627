use Rattle.lsm_refine.proofs.UnneededLemmas.{unneeded_reads, unneeded_halts}
use Rattle.lsm_refine.proofs.frame_laws.a_file_that_is_not_needed_shows_nothing.Goals as goal

pub returns-clause-images : goal.returns-clause-images
returns-clause-images c = unneeded_reads

pub returns-clause-halted : goal.returns-clause-halted
returns-clause-halted c = unneeded_halts
