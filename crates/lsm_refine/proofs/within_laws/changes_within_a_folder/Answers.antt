use Rattle.lsm_refine.proofs.WithinLemmas.{all_older}
use Rattle.lsm_refine.proofs.WithinRuns.{builds_none, builds_both, builds_once, plain_run}
use Rattle.lsm_refine.proofs.within_laws.changes_within_a_folder.Goals as goal

pub returns-clause-none : goal.returns-clause-none
returns-clause-none c = builds_none

pub returns-clause-both : goal.returns-clause-both
returns-clause-both c = builds_both

pub returns-clause-once : goal.returns-clause-once
returns-clause-once c = builds_once

pub returns-clause-run : goal.returns-clause-run
returns-clause-run c = plain_run

pub returns-clause-older : goal.returns-clause-older
returns-clause-older c = all_older
