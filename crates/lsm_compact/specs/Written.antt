-- Which rows a compaction writes: the newest of each user key of its inputs, without the deletes under which nothing is hidden.
use Rattle.std.specs.Prelude.{◌≡◌, ℕ, Bool, ◌==◌, ◌&&◌, not, nat_lt, if◌then◌else◌, List, map, Option, Some, None, is_none}
use Rattle.std.specs.List.{list_any, flat_map}
use Rattle.std.specs.List.Sorted.{IsStrictlySortedBy}
use Rattle.std.specs.FinMap as finite
use Rattle.lsm_rows.specs.declared.rows.Row.{Row}
use Rattle.lsm_rows.specs.Contents.{newest}
use Rattle.lsm_rows.specs.Replay.{key_cmp}
use Rattle.lsm_version.specs.declared.choices.Choice.{Choice}
use Rattle.lsm_version.specs.declared.tables.Place.{Place}
use Rattle.lsm_version.specs.declared.tables.Placed.{Placed}
use Rattle.lsm_version.specs.Levels.{Tables}
use Rattle.lsm_compact.specs.Orderly.{in_range}

-- a table of this number is read
abbrev pub is_input : List Place → ℕ → Bool
is_input inputs number = list_any (λ (place : Place). place.number == number) inputs

-- the rows of the tables at these places, in their order
abbrev pub rows_at : (ℕ → List Row) → List Place → List Row
rows_at rows places = flat_map (λ (place : Place). rows place.number) places

-- the rows that are read, in the order of the inputs
abbrev pub input_rows : (ℕ → List Row) → Choice → List Row
input_rows rows choice = rows_at rows choice.inputs

-- the table is deeper than the output and isn't read, and has the key in its range
abbrev pub may_hide : Choice → List ℕ → ℕ × Placed → Bool
may_hide choice key table =
    nat_lt choice.output table.1.level && (not (is_input choice.inputs table.0) && in_range key table.1.info)

-- some table deeper than the output, outside the inputs, has the key in its range
unfoldable pub is_below : Tables → Choice → List ℕ → Bool
is_below tables choice key = list_any (may_hide choice key) (finite.entries tables)

-- a row is left out where it is a delete, and no table deeper than the output, outside the inputs, has its key in its range
unfoldable pub is_left_out : Tables → Choice → Row → Bool
is_left_out tables choice row = is_none row.value && not (is_below tables choice row.key)

-- what is written of a key whose newest row among the inputs is this
abbrev pub unless_left_out : Tables → Choice → Option Row → Option Row
unless_left_out tables choice None = None
unless_left_out tables choice (Some row) = if is_left_out tables choice row then None else Some row

-- The rows that are written of these inputs' rows: each user key once, ascending; and of each key its newest row among the
-- inputs, unless that is left out.
pub record AreWritten (tables : Tables) (choice : Choice) (inputs written : List Row) : Type 0 where
  pub ascend : IsStrictlySortedBy key_cmp (map (λ row. row.key) written)
  pub each : (key : List ℕ) → newest key written ≡ unless_left_out tables choice (newest key inputs)
