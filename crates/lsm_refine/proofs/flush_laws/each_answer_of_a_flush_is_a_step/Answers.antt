use Rattle.lsm_refine.proofs.FlushSteps.{flush_halted, flush_no_job, flush_more, flush_installed, flush_numbers_full, flush_tables_full, flush_wanting, flush_fault}
use Rattle.lsm_refine.proofs.flush_laws.each_answer_of_a_flush_is_a_step.Goals as goal

pub returns-clause-halted : goal.returns-clause-halted
returns-clause-halted c = flush_halted

pub returns-clause-no_job : goal.returns-clause-no_job
returns-clause-no_job c = flush_no_job

pub returns-clause-more : goal.returns-clause-more
returns-clause-more c = flush_more

pub returns-clause-installed : goal.returns-clause-installed
returns-clause-installed c = flush_installed

pub returns-clause-numbers_full : goal.returns-clause-numbers_full
returns-clause-numbers_full c = flush_numbers_full

pub returns-clause-tables_full : goal.returns-clause-tables_full
returns-clause-tables_full c = flush_tables_full

pub returns-clause-wanting : goal.returns-clause-wanting
returns-clause-wanting c = flush_wanting

pub returns-clause-fault : goal.returns-clause-fault
returns-clause-fault c = flush_fault
