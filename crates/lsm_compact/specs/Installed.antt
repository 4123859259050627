-- A version after the edit of a compaction.
use Rattle.std.specs.Prelude.{◌≡◌, ℕ, nat_eq, List, map, All, Some, None, Ok}
use Rattle.std.specs.List.{IsDistinct}
use Rattle.std.specs.FinMap as finite
use Rattle.lsm_rows.specs.declared.rows.Row.{Row}
use Rattle.lsm_version.specs.declared.edits.Edit.{Edit}
use Rattle.lsm_version.specs.declared.tables.Add.{Add}
use Rattle.lsm_version.specs.declared.tables.Placed.{Placed}
use Rattle.lsm_version.specs.Levels.{Tables}
use Rattle.lsm_version.specs.Versions.{applied}

-- the rows of the tables that are added, in their order
abbrev pub added_rows : (ℕ → List Row) → List Add → List (List Row)
added_rows rows adds = map (λ (add : Add). rows add.table.number) adds

-- a table that stands before and after has the rows that it had
abbrev pub KeepsRows : Tables → Tables → (ℕ → List Row) → (ℕ → List Row) → Type 0
KeepsRows tables after rows later = (number : ℕ) (placed : Placed) → finite.get tables number ≡ Some placed
    → finite.get after number ≡ Some placed → later number ≡ rows number

-- The edit makes this version, and a table that stays has the rows that it had.
pub record IsInstalled (tables after : Tables) (rows later : ℕ → List Row) (edit : Edit) : Type 0 where
  pub is : applied tables edit ≡ Ok after
  pub stay : KeepsRows tables after rows later

-- the numbers of the tables that are added are free, and no two of them are one
pub record AreFree (tables : Tables) (adds : List Add) : Type 0 where
  pub free : All (λ (add : Add). finite.get tables add.table.number ≡ None) adds
  pub distinct : IsDistinct nat_eq (map (λ (add : Add). add.table.number) adds)
