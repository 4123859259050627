-- When the tables of a version, with their rows, are in the order that readings and compactions stand on.
use Rattle.std.specs.Prelude.{◌≡◌, ℕ, ◌≤◌, nat_eq, Bool, true, ◌&&◌, List, ◌∷◌, length, map, All, Contains, Some}
use Rattle.std.specs.List.{flat_map, IsDistinct}
use Rattle.std.specs.Ordering.{is_le}
use Rattle.std.specs.FinMap as finite
use Rattle.lsm_rows.specs.declared.rows.Row.{Row}
use Rattle.lsm_rows.specs.InternalKeys.{user_key}
use Rattle.lsm_rows.specs.Replay.{key_cmp}
use Rattle.lsm_block.specs.Parts.{last_key}
use Rattle.lsm_block.specs.TableText.{AreTableRows, row_entry}
use Rattle.lsm_version.specs.declared.tables.Placed.{Placed}
use Rattle.lsm_version.specs.declared.tables.TableInfo.{TableInfo}
use Rattle.lsm_version.specs.Levels.{Tables, IsLeveled}

-- the user key lies in a table's range: from the user key of its least internal key to that of its greatest
abbrev pub in_range : List ℕ → TableInfo → Bool
in_range key info = is_le (key_cmp (user_key info.smallest) key) && is_le (key_cmp key (user_key info.largest))

-- the rows of all tables, by the tables' numbers
abbrev pub rows_of_tables : Tables → (ℕ → List Row) → List Row
rows_of_tables tables rows = flat_map (λ (table : ℕ × Placed). rows table.0) (finite.entries tables)

-- Levels are ordered; each table has a row, and its rows lie in its range; and of the rows of all tables no two have one
-- sequence: rows that have are one row, of one table. The rows of a table are given by its number.
pub record IsOrderly (tables : Tables) (rows : ℕ → List Row) : Type 0 where
  pub leveled : IsLeveled tables rows
  pub some : (number : ℕ) (placed : Placed) → finite.get tables number ≡ Some placed → 1 ≤ length (rows number)
  pub ranged : (number : ℕ) (placed : Placed) → finite.get tables number ≡ Some placed
      → All (λ row. in_range row.key placed.info ≡ true) (rows number)
  pub own : (m n : ℕ) (a b : Placed) → finite.get tables m ≡ Some a → finite.get tables n ≡ Some b
      → (row other : Row) → Contains (rows m) row → Contains (rows n) other → row.sequence ≡ other.sequence
      → (m ≡ n) × (row ≡ other)

-- a table's rows are in order, and it is listed with the internal keys of the first and the last of them
pub record IsListed (info : TableInfo) (rows : List Row) : Type 0 where
  pub are : AreTableRows rows
  pub smallest_is : (row : Row) (more : List Row) → rows ≡ row ∷ more → info.smallest ≡ (row_entry row).key
  pub largest_is : info.largest ≡ last_key (map row_entry rows)

-- each table of the version is listed so
abbrev pub AreListed : Tables → (ℕ → List Row) → Type 0
AreListed tables rows =
    (number : ℕ) (placed : Placed) → finite.get tables number ≡ Some placed → IsListed placed.info (rows number)

-- no two rows have one sequence
abbrev pub HaveOwnSequences : List Row → Type 0
HaveOwnSequences rows = IsDistinct nat_eq (map (λ (row : Row). row.sequence) rows)
