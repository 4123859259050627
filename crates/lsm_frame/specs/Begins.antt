-- Lists of which one begins the other.
use Rattle.std.specs.Prelude.{◌≡◌, List, ◌++◌}

-- the whole is the front, and then a rest
pub record Begins {A : Type 0} (front whole : List A) : Type 0 where
  pub rest : List A
  pub is : whole ≡ front ++ rest
