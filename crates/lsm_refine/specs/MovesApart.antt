-- The move of a folder that leaves the store's own as it is.
use Rattle.std.specs.Prelude.{ℕ, ◌≤◌, List, ◌∷◌, ◌++◌, length, Option, Some, None}
use Rattle.lsm_disk.specs.Names.{Moved}
use Rattle.lsm_disk.specs.Kept.{OpSpares}
use Rattle.lsm_model.specs.Halting.{built_in}
use Rattle.lsm_refine.specs.Kept.{Job}

-- neither the folder nor any path inside is one of the two names, or inside one; and the first isn't the root
pub record MovesApart (dir from to : List ℕ) : Type 0 where
  pub named : 1 ≤ length from
  pub folder : OpSpares dir (Moved from to)
  pub inside : (rest : List ℕ) → OpSpares (dir ++ 47 ∷ rest) (Moved from to)

-- so is the folder that a checkpoint under way builds
abbrev pub JobApart : List ℕ → List ℕ → Option Job → Type 0
JobApart from to None = Unit {0}
JobApart from to (Some job) = MovesApart (built_in job.dir) from to
