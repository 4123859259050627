use Rattle.lsm_refine.proofs.TableWorkLemmas.{noted_good}
use Rattle.lsm_refine.proofs.TableSteps.{created_good, created_lone, created_reads, created_halts}
use Rattle.lsm_refine.proofs.flush_laws.a_table_is_begun.Goals as goal

pub returns-clause-noted : goal.returns-clause-noted
returns-clause-noted c = noted_good

pub returns-clause-good : goal.returns-clause-good
returns-clause-good c = created_good

pub returns-clause-lone : goal.returns-clause-lone
returns-clause-lone c = created_lone

pub returns-clause-images : goal.returns-clause-images
returns-clause-images c = created_reads

pub returns-clause-halted : goal.returns-clause-halted
returns-clause-halted c = created_halts
