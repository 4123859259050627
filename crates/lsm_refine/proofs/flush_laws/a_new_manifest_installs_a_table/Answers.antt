use Rattle.lsm_refine.proofs.FlushReads.{roll_good, roll_reads, roll_halts}
use Rattle.lsm_refine.proofs.flush_laws.a_new_manifest_installs_a_table.Goals as goal

pub returns-clause-good : goal.returns-clause-good
returns-clause-good c = roll_good

pub returns-clause-images : goal.returns-clause-images
returns-clause-images c = roll_reads

pub returns-clause-halted : goal.returns-clause-halted
returns-clause-halted c = roll_halts
