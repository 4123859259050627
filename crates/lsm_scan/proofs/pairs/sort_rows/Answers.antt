use Rattle.std.proofs.Common.{rules}
use Rattle.lsm_scan.proofs.Sorting.{sorted_by, stable_by}
use Rattle.lsm_scan.proofs.pairs.sort_rows.Goals as goal

pub returns-clause-stable : goal.returns-clause-stable
returns-clause-stable c = stable_by (λ a r f' k. search rules) _ _ c.in_ok-sort_by.ensures.stable

pub returns-clause-sorted : goal.returns-clause-sorted
returns-clause-sorted c = sorted_by (λ a r f' k. search rules) _ c.in_ok-sort_by.ensures.sorted
