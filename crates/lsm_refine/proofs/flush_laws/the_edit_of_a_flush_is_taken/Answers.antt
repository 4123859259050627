use Rattle.lsm_refine.proofs.AddedLemmas.{flush_applies, flush_adds}
use Rattle.lsm_refine.proofs.flush_laws.the_edit_of_a_flush_is_taken.Goals as goal

pub returns-clause-applies : goal.returns-clause-applies
returns-clause-applies c = flush_applies

pub returns-clause-adds : goal.returns-clause-adds
returns-clause-adds c = flush_adds
