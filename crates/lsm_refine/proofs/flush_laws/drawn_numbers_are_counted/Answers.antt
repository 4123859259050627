use Rattle.lsm_refine.proofs.FlushSteps.{draws_none, draws_both, draws_more, draws_built}
use Rattle.lsm_refine.proofs.flush_laws.drawn_numbers_are_counted.Goals as goal

pub returns-clause-none : goal.returns-clause-none
returns-clause-none c = draws_none

pub returns-clause-both : goal.returns-clause-both
returns-clause-both c = draws_both

pub returns-clause-more : goal.returns-clause-more
returns-clause-more c = draws_more

pub returns-clause-built : goal.returns-clause-built
returns-clause-built c = draws_built
