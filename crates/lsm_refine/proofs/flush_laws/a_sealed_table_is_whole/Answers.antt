use Rattle.lsm_refine.proofs.TableSteps.{sealed_whole, names_quiet, working_crashed}
use Rattle.lsm_refine.proofs.flush_laws.a_sealed_table_is_whole.Goals as goal

pub returns-clause-whole : goal.returns-clause-whole
returns-clause-whole c = sealed_whole

pub returns-clause-quiet : goal.returns-clause-quiet
returns-clause-quiet c = names_quiet

pub returns-clause-crashed : goal.returns-clause-crashed
returns-clause-crashed c = working_crashed
