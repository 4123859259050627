-- A stop that asks from a look on, as contracts see it.
use Rattle.std.specs.Prelude.{ℕ, Bool, if◌then◌else◌}
use Rattle.lsm_io.specs.Causes.{risen}

-- from which look on it answers true, how often it was looked at, and how often it answered true
pub record Stopping : Type 0 where
  pub at : ℕ
  pub looks : ℕ
  pub asked : ℕ

-- the count of true answers after a look with this answer
abbrev pub asked_after : Bool → ℕ → ℕ
asked_after answer asked = if answer then risen asked else asked
