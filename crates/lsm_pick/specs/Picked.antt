-- Which tables a compaction takes by the shape of the levels. The first level beyond its target is the one whose tables go
-- one level deeper.
use Rattle.std.specs.Prelude.{ℕ, zero, suc, ◌+◌, ◌*◌, ◌-◌, ◌^◌, ◌==◌, Bool, ◌&&◌, nat_le, nat_lt, find, if◌then◌else◌, List, [], ◌∷◌, ◌++◌, map, filter, fold, length, sum_by, Option, Some, None}
use Rattle.std.specs.Option.{option_map}
use Rattle.std.specs.Ordering.{is_le, is_lt}
use Rattle.std.specs.FinMap as finite
use Rattle.lsm_rows.specs.InternalKeys.{user_key}
use Rattle.lsm_rows.specs.Replay.{key_cmp}
use Rattle.lsm_version.specs.declared.tables.Placed.{Placed}
use Rattle.lsm_version.specs.declared.choices.Choice.{Choice}
use Rattle.lsm_version.specs.Levels.{Tables}
use Rattle.lsm_version.specs.Orders.{place_of}

-- ---- levels and their targets

-- the tables of a level, in the order of their numbers
abbrev pub tables_at : ℕ → Tables → List (ℕ × Placed)
tables_at level tables = filter (λ (table : ℕ × Placed). table.1.level == level) (finite.entries tables)

-- the bytes of a table's file
abbrev pub size_of : ℕ × Placed → ℕ
size_of table = table.1.info.size

-- the bytes of a level's files
abbrev pub bytes_at : ℕ → Tables → ℕ
bytes_at level tables = sum_by size_of (tables_at level tables)

-- the most bytes of a level from 1 to 5: 4 MiB, and ten times that of the level above
abbrev pub target : ℕ → ℕ
target level = 4194304 * 10 ^ (level - 1)

-- The level is beyond its target: level 0 with 4 tables or more, a level from 1 to 5 by its bytes.
abbrev pub is_beyond : Tables → ℕ → Bool
is_beyond tables zero = nat_le 4 (length (tables_at 0 tables))
is_beyond tables (suc level) = nat_lt (target (suc level)) (bytes_at (suc level) tables)

-- the least level beyond its target
abbrev pub first_beyond : Tables → Option ℕ
first_beyond tables = find (is_beyond tables) (0 ∷ 1 ∷ 2 ∷ 3 ∷ 4 ∷ 5 ∷ [])

-- ---- ranges of user keys

-- a least and a greatest user key
pub record Range : Type 0 where
  pub least : List ℕ
  pub greatest : List ℕ

abbrev pub range_of : Placed → Range
range_of placed = record { least = user_key placed.info.smallest; greatest = user_key placed.info.largest }

-- the range from the less of two least keys to the greater of two greatest
abbrev pub joined : Range → Range → Range
joined a b = record {
  least = if is_le (key_cmp a.least b.least) then a.least else b.least;
  greatest = if is_le (key_cmp b.greatest a.greatest) then a.greatest else b.greatest;
}

-- the range of some tables, from their least to their greatest user key
abbrev pub range_of_all : List (ℕ × Placed) → Option Range
range_of_all [] = None
range_of_all (table ∷ tables) =
    Some (fold (λ (r : Range) (next : ℕ × Placed). joined r (range_of next.1)) (range_of table.1) tables)

-- the table meets the range: neither ends before the other begins
abbrev pub meets : Range → ℕ × Placed → Bool
meets range table = is_le (key_cmp (user_key table.1.info.smallest) range.greatest) && is_le (key_cmp range.least (user_key table.1.info.largest))

-- the tables of a level that meet the range
abbrev pub meeting : Option Range → ℕ → Tables → List (ℕ × Placed)
meeting None level tables = []
meeting (Some range) level tables = filter (meets range) (tables_at level tables)

-- ---- what is taken

-- the table that begins with the lesser key, the first where both begin with one key
abbrev pub lesser : ℕ × Placed → ℕ × Placed → ℕ × Placed
lesser a b = if is_lt (key_cmp (user_key b.1.info.smallest) (user_key a.1.info.smallest)) then b else a

-- the table with the least key, the first of several
abbrev pub least_of : List (ℕ × Placed) → List (ℕ × Placed)
least_of [] = []
least_of (table ∷ tables) = fold lesser table tables ∷ []

-- what goes from a level: of level 0 all tables, of another the one with the least key
abbrev pub going : ℕ → Tables → List (ℕ × Placed)
going zero tables = tables_at 0 tables
going (suc level) tables = least_of (tables_at (suc level) tables)

-- The tables that go, and those of the next level that meet their range, which are merged into that level.
abbrev pub choice_at : Tables → ℕ → Choice
choice_at tables level =
    let from : List (ℕ × Placed) = going level tables in
    record { inputs = map place_of (from ++ meeting (range_of_all from) (level + 1) tables); output = level + 1 }

-- what a compaction by the shape takes: None where each level is within its target
unfoldable pub picked : Tables → Option Choice
picked tables = option_map (choice_at tables) (first_beyond tables)
