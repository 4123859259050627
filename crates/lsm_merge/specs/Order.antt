-- The order of rows, which is that of their internal keys.
use Rattle.std.specs.Prelude.{◌≡◌, ◌⊎◌, ◌≤◌}
use Rattle.std.specs.Ordering.{nat_cmp, ordering_then}
use Rattle.std.specs.Cmp.{IsTotalOrder}
use Rattle.std.specs.declared.cmp.Ordering.{Ordering}
use Rattle.std.specs.declared.cmp.Ordering.TheVariants.{Less}
use Rattle.std.proofs.lemmas.Cmp.{on_total, then_total, back_total, nat_cmp_total, nat_list_cmp_total}
use Rattle.lsm_rows.specs.declared.rows.Row.{Row}
use Rattle.lsm_rows.specs.Replay.{key_cmp}

-- user keys by their bytes ascending, and of one user key the greater sequence first
abbrev pub row_cmp : Row → Row → Ordering
row_cmp a b = ordering_then (key_cmp a.key b.key) (nat_cmp b.sequence a.sequence)

-- that order is total
pub row_total : IsTotalOrder row_cmp
row_total = then_total (on_total (λ (row : Row). row.key) nat_list_cmp_total)
    (back_total (on_total (λ (row : Row). row.sequence) nat_cmp_total))

-- a row doesn't come before the first: its user key is greater, or it is of the same and no newer
unfoldable pub IsFrom : Row → Row → Type 0
IsFrom first row = (key_cmp first.key row.key ≡ Less) ⊎ ((row.key ≡ first.key) × (row.sequence ≤ first.sequence))
