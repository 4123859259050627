use Rattle.lsm_refine.proofs.CutSteps.{flushes_same, cut_halted, cut_full, cut_wanting, cut_ok}
use Rattle.lsm_refine.proofs.call_laws.a_cut_pins_its_files.Goals as goal

pub returns-clause-flushes : goal.returns-clause-flushes
returns-clause-flushes c = flushes_same

pub returns-clause-halted : goal.returns-clause-halted
returns-clause-halted c = cut_halted

pub returns-clause-full : goal.returns-clause-full
returns-clause-full c = cut_full

pub returns-clause-wanting : goal.returns-clause-wanting
returns-clause-wanting c = cut_wanting

pub returns-clause-ok : goal.returns-clause-ok
returns-clause-ok c = cut_ok
