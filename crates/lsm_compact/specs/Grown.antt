-- A version to which flushes have added tables while a compaction ran.
use Rattle.std.specs.Prelude.{◌≡◌, ℕ, ◌≤◌, List, All, Some, None}
use Rattle.std.specs.FinMap as finite
use Rattle.lsm_rows.specs.declared.rows.Row.{Row}
use Rattle.lsm_version.specs.declared.tables.Placed.{Placed}
use Rattle.lsm_version.specs.Levels.{Tables}

-- All tables still stand; those that came stand at level 0, and no row of them is older than one that was there.
pub record IsGrown (tables more : Tables) (rows : ℕ → List Row) : Type 0 where
  pub stay : (number : ℕ) (placed : Placed) → finite.get tables number ≡ Some placed → finite.get more number ≡ Some placed
  pub level : (number : ℕ) (placed : Placed) → finite.get tables number ≡ None → finite.get more number ≡ Some placed
      → placed.level ≡ 0
  pub newer : (m n : ℕ) (a b : Placed) → finite.get tables m ≡ Some a → finite.get tables n ≡ None
      → finite.get more n ≡ Some b → All (λ row. All (λ other. other.sequence ≤ row.sequence) (rows m)) (rows n)
