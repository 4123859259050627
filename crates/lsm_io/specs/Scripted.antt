-- The objects in memory as contracts see them: a list, how many calls there were, the numbers of the calls that fail,
-- and how often one failed. Calls are counted from 1.
use Rattle.std.specs.Prelude.{ℕ, List, [], Bool, Option, Result, ◌==◌, if◌then◌else◌, is_ok, find, option_map}
use Rattle.std.specs.List.{list_any}
use Rattle.lsm_io.specs.Causes.{risen}

-- an object that gives the values of a list, one call after the other
pub record Remaining (A : Type 0) : Type 0 where
  pub left : List A
  pub calls : ℕ
  pub fails : List ℕ
  pub faults : ℕ

-- an object that takes bytes; each call that fails is named with how many bytes it takes first
pub record Taking : Type 0 where
  pub taken : List ℕ
  pub calls : ℕ
  pub fails : List (ℕ × ℕ)
  pub faults : ℕ

-- an object with these values and failing calls, before its first call
abbrev pub remaining_new : {A : Type 0} → List A → List ℕ → Remaining A
remaining_new values fails = record { left = values; calls = 0; fails = fails; faults = 0 }

-- an object that has taken nothing, with these failing calls, before its first one
abbrev pub taking_new : List (ℕ × ℕ) → Taking
taking_new fails = record { taken = []; calls = 0; fails = fails; faults = 0 }

-- whether the call of this number is to fail
abbrev pub fails_at : List ℕ → ℕ → Bool
fails_at fails call = list_any (λ (f : ℕ). f == call) fails

-- how many bytes the call of this number takes before it fails, where it is to fail
abbrev pub cut_at : List (ℕ × ℕ) → ℕ → Option ℕ
cut_at fails call = option_map (λ (f : ℕ × ℕ). f.1) (find (λ (f : ℕ × ℕ). f.0 == call) fails)

-- the count of faults after a call with this result
abbrev pub faults_after : {T E : Type 0} → Result T E → ℕ → ℕ
faults_after result faults = if is_ok result then faults else risen faults
