-- The first row of each key among sorted rows.
use Rattle.std.specs.Prelude.{◌≡◌, ◌≢◌, ◌⊎◌, ℕ, ◌+◌, List, Some, slice_get}
use Rattle.lsm_rows.specs.declared.rows.Row.{Row}

-- two rows stand one behind the other
pub record AreNeighbours (rows : List Row) (place : ℕ) : Type 0 where
  pub before : Row
  pub row : Row
  pub at : ℕ
  pub place_is : place ≡ at + 1
  pub first : slice_get rows at ≡ Some before
  pub second : slice_get rows place ≡ Some row

-- the row at this place is the first of all, or the row before it has another key
abbrev pub IsFirstOfKey : List Row → ℕ → Type 0
IsFirstOfKey rows place = (place ≡ 0) ⊎ ((two : AreNeighbours rows place) × (two.before.key ≢ two.row.key))

-- the row before it has its key
abbrev pub IsNotFirst : List Row → ℕ → Type 0
IsNotFirst rows place = (two : AreNeighbours rows place) × (two.before.key ≡ two.row.key)
