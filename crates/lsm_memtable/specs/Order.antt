-- The order of rows, which is that of their internal keys.
use Rattle.std.specs.Prelude.{◌^◌, ◌<◌, List, All}
use Rattle.std.specs.List.Sorted.{IsStrictlySortedBy}
use Rattle.std.specs.Ordering.{nat_cmp, ordering_then}
use Rattle.std.specs.declared.cmp.Ordering.{Ordering}
use Rattle.lsm_rows.specs.declared.rows.Row.{Row}
use Rattle.lsm_rows.specs.Replay.{key_cmp}

-- user keys by their bytes ascending, and of one user key the greater sequence first
abbrev pub row_cmp : Row → Row → Ordering
row_cmp a b = ordering_then (key_cmp a.key b.key) (nat_cmp b.sequence a.sequence)

-- rows in this order, no two with one key and one sequence
pub record AreInOrder (rows : List Row) : Type 0 where
  pub ascend : IsStrictlySortedBy row_cmp rows
  pub below : All (λ row. row.sequence < 2 ^ 56) rows
