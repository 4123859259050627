-- The order of levels: which tables of a level overlap, and that deeper rows are older.
use Rattle.std.specs.Prelude.{◌≡◌, ◌≢◌, ℕ, ◌+◌, ◌<◌, ◌≤◌, Bool, false, ◌==◌, ◌&&◌, List, [], ◌++◌, map, filter, nat_lt, All, Some}
use Rattle.std.specs.List.{flat_map}
use Rattle.std.specs.Ordering.{nat_cmp, is_le}
use Rattle.std.specs.FinMap as finite
use Prim.Native.Nat.{zero, suc}
use Rattle.lsm_rows.specs.declared.rows.Row.{Row}
use Rattle.lsm_rows.specs.InternalKeys.{user_key}
use Rattle.lsm_rows.specs.Replay.{key_cmp}
use Rattle.lsm_version.specs.declared.tables.Placed.{Placed}
use Rattle.lsm_version.specs.declared.tables.TableInfo.{TableInfo}

-- the live tables, by their numbers
abbrev pub Tables : Type 0
Tables = finite.FinMap nat_cmp Placed

-- neither table's user keys all come before the other's
unfoldable pub overlap : TableInfo → TableInfo → Bool
overlap a b =
    is_le (key_cmp (user_key a.smallest) (user_key b.largest)) && is_le (key_cmp (user_key b.smallest) (user_key a.largest))

-- two tables of a level that overlap, the smaller number first
pub record Overlap : Type 0 where
  pub level : ℕ
  pub left : ℕ
  pub right : ℕ

-- the first of the two has the smaller number, both are of the level, and they overlap
unfoldable pub clash : ℕ → ℕ × Placed → ℕ × Placed → Bool
clash level a b = nat_lt a.0 b.0 && (a.1.level == level && (b.1.level == level && overlap a.1.info b.1.info))

-- a table with each of these with which it overlaps
abbrev pub overlaps_with : ℕ → List (ℕ × Placed) → ℕ × Placed → List Overlap
overlaps_with level tables a = map (λ b. record { level = level; left = a.0; right = b.0 }) (filter (clash level a) tables)

-- the pairs of a level that overlap, by the smaller number and then by the greater
abbrev pub overlaps_at : ℕ → List (ℕ × Placed) → List Overlap
overlaps_at level tables = flat_map (overlaps_with level tables) tables

-- those of so many levels from one on
abbrev pub overlaps_from : ℕ → ℕ → List (ℕ × Placed) → List Overlap
overlaps_from zero level tables = []
overlaps_from (suc levels) level tables = overlaps_at level tables ++ overlaps_from levels (level + 1) tables

-- the pairs that overlap, of the six levels from 1 on
abbrev pub overlaps : Tables → List Overlap
overlaps tables = overlaps_from 6 1 (finite.entries tables)

-- Levels are ordered: two tables of one level from 1 on have no user key in both their ranges, and of one key no row
-- of a deeper level has a greater sequence. The rows of a table are given by its number.
pub record IsLeveled (tables : Tables) (rows : ℕ → List Row) : Type 0 where
  pub apart : (m n : ℕ) (a b : Placed) → finite.get tables m ≡ Some a → finite.get tables n ≡ Some b → m ≢ n
      → 1 ≤ a.level → a.level ≡ b.level → overlap a.info b.info ≡ false
  pub older : (m n : ℕ) (a b : Placed) → finite.get tables m ≡ Some a → finite.get tables n ≡ Some b → a.level < b.level
      → All (λ row. All (λ other. other.key ≡ row.key → other.sequence ≤ row.sequence) (rows n)) (rows m)
