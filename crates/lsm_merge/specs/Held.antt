-- The held rows of a merge.
use Rattle.std.specs.Prelude.{◌≡◌, ℕ, List, ◌∷◌, Contains, Option, Some, None, IsPermutation}
use Rattle.lsm_rows.specs.declared.rows.Row.{Row}
use Rattle.lsm_merge.specs.declared.heads.Head.{Head}
use Rattle.lsm_merge.specs.Order.{IsFrom}

-- the held rows, and for how many there is room
pub record Held : Type 0 where
  pub heads : List Head
  pub room : ℕ

-- none of the held rows comes before the first
unfoldable pub AreFrom : Row → List Head → Type 0
AreFrom first heads = (head : Head) → Contains heads head → IsFrom first head.row

-- the row that the source with this place answered is held too
unfoldable pub IsPut : Option Row → ℕ → List Head → List Head → Type 0
IsPut None place old new = new ≡ old
IsPut (Some row) place old new = IsPermutation (record { row = row; place = place } ∷ old) new

-- one is taken, and the row that its source answered is held in its stead
pub record IsReplaced (answer : Option Row) (head : Head) (old new : List Head) : Type 0 where
  pub rest : List Head
  pub taken : IsPermutation old (head ∷ rest)
  pub put : IsPut answer head.place rest new
