-- The newest row of each key.
use Rattle.std.specs.Prelude.{ℕ, Bool, false, nat_eq, List, Option, Some, None}
use Rattle.std.specs.List.{filter}
use Rattle.lsm_rows.specs.declared.rows.Row.{Row}
use Rattle.lsm_rows.specs.Contents.{newest}

-- whether a row is there and has this sequence
abbrev pub has_sequence : ℕ → Option Row → Bool
has_sequence sequence None = false
has_sequence sequence (Some row) = nat_eq row.sequence sequence

-- whether a row is as new as its key's newest among these
abbrev pub is_newest : List Row → Row → Bool
is_newest rows row = has_sequence row.sequence (newest row.key rows)

-- the rows that are their keys' newest, in the order in which they stand
unfoldable pub newest_each : List Row → List Row
newest_each rows = filter (is_newest rows) rows
