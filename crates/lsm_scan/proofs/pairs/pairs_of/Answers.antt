use Rattle.std.proofs.Common.{◌≡◌, List, subst}
use Rattle.std.specs.Prelude.{IfOk}
use Rattle.lsm_rows.specs.declared.rows.Row.{Row}
use Rattle.lsm_rows.specs.Contents.{contents_of}
use Rattle.lsm_scan.proofs.Sorted.{pairs_end}
use Rattle.lsm_scan.proofs.pairs.pairs_of.Goals as goal

pub returns : goal.returns
returns c =
    subst (λ (rows : List Row). IfOk c.sorted_pairs.result (λ pairs. pairs ≡ contents_of rows)) c.into_vec-rows.ensures
    (pairs_end c.into_vec-rows.result.items c.sort_rows.new.rows.items c.as_slice.result.now c.sorted_pairs.result
    c.in_ok-sort_rows.ensures.permutation c.in_ok-sort_rows.ensures.stable c.as_slice.ensures.value c.sorted_pairs.ensures)
