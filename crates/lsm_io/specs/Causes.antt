-- When a call to the outside may answer that it failed. A count never passes 2^64 - 1, its last value.
use Rattle.std.specs.Prelude.{ℕ, ◌+◌, ◌-◌, ◌^◌, ◌≤◌, min, Result, OnErr}

-- a count that has risen by one, or stands at its last value
abbrev pub risen : ℕ → ℕ
risen before = min (before + 1) (2 ^ 64 - 1)

-- a count has risen, or stands at its last value
abbrev pub Rose : ℕ → ℕ → Type 0
Rose before now = risen before ≤ now

-- the count of faults never falls, and where the call failed it rose
pub record HasCause {T E : Type 0} (before now : ℕ) (result : Result T E) : Type 0 where
  pub later : before ≤ now
  pub failed : OnErr result (Rose before now)
