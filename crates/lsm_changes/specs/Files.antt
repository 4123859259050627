-- Files in memory, and what a crash leaves of them.
use Rattle.std.specs.Prelude.{◌≡◌, Bool, true, false, List, [], ◌∷◌}
use Rattle.lsm_disk.specs.State.{FileState}
use Rattle.lsm_disk.specs.Images.{IsCut}

abbrev pub is_empty : {A : Type 0} → List A → Bool
is_empty [] = true
is_empty (x ∷ xs) = false

-- what is left of a file, all of it durable
pub record IsLeft (f g : FileState) : Type 0 where
  pub all : g.unsynced ≡ []
  pub cut : IsCut f g.synced

abbrev pub AreLeft : List FileState → List FileState → Type 0
AreLeft [] [] = Unit {0}
AreLeft (f ∷ fs) (g ∷ gs) = IsLeft f g × AreLeft fs gs
AreLeft [] (g ∷ gs) = ⊥
AreLeft (f ∷ fs) [] = ⊥
