-- What drawing a value does to the list of values that are left, where it is told.
use Rattle.std.specs.Prelude.{◌≡◌, List, ◌∷◌, Option, Some, None}

-- the value is taken off the front of the list, and a list that isn't told goes on not told
abbrev pub Draws : {A : Type 0} → Option (List A) → Option (List A) → A → Type 0
Draws None None value = Unit {0}
Draws None (Some left) value = ⊥
Draws (Some before) None value = ⊥
Draws (Some before) (Some left) value = before ≡ value ∷ left
