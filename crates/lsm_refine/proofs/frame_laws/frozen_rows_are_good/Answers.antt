use Rattle.lsm_refine.proofs.FrozenLemmas.{frozen_good}
use Rattle.lsm_refine.proofs.NewLogLemmas.{making_halts, before_reads, new_reads}
use Rattle.lsm_refine.proofs.frame_laws.frozen_rows_are_good.Goals as goal

pub returns-clause-good : goal.returns-clause-good
returns-clause-good c = frozen_good

pub returns-clause-halted : goal.returns-clause-halted
returns-clause-halted c = λ v s good run x writes wal lawful fits drawn none seen at story r told is. making_halts v s good run x writes wal lawful fits drawn none seen at (Unit {0}) story r told is

pub returns-clause-before : goal.returns-clause-before
returns-clause-before c = before_reads

pub returns-clause-made : goal.returns-clause-made
returns-clause-made c = new_reads
