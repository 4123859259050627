use Rattle.lsm_refine.proofs.UnchangedLemmas.{unchanged_good, halted_good}
use Rattle.lsm_refine.proofs.laws.an_unchanged_store_stays_good.Goals as goal

pub returns-clause-same : goal.returns-clause-same
returns-clause-same c = unchanged_good

pub returns-clause-stopped : goal.returns-clause-stopped
returns-clause-stopped c = halted_good
