-- The rows that come after a key, which are given in runs.
use Rattle.std.specs.Prelude.{ℕ, Bool, true, List, Option, Some, None, filter}
use Rattle.std.specs.Ordering.{is_lt}
use Rattle.lsm_rows.specs.declared.rows.Row.{Row}
use Rattle.lsm_rows.specs.InternalKeys.{internal_cmp}
use Rattle.lsm_block.specs.TableText.{row_entry}

-- an internal key comes after another in their order; after none each does
abbrev pub comes_after : Option (List ℕ) → List ℕ → Bool
comes_after None key = true
comes_after (Some before) key = is_lt (internal_cmp before key)

-- the rows whose internal keys come after one, and all where there is none
unfoldable pub rows_after : Option (List ℕ) → List Row → List Row
rows_after after rows = filter (λ row. comes_after after (row_entry row).key) rows
