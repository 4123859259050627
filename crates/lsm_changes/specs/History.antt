-- The record of changes by the clock, as the log of a story.
use Rattle.std.specs.Prelude.{◌≡◌, ℕ, zero, suc, ◌+◌, ◌-◌, ◌^◌, ◌≤◌, min, length, List, [], ◌∷◌, ◌++◌, refl}
use Rattle.std.specs.Coded.{Coded, code_by, coded×, coded_ℕ, coded_list}
use Rattle.lsm_disk.specs.State.{Change, Created, Named, Appended, Synced, Names_synced, Idle}
use Rattle.lsm_disk.specs.Codes.{coded_change}

-- the clock alone moves, so many times
abbrev pub idle : ℕ → List Change
idle zero = []
idle (suc n) = Idle ∷ idle n

-- each change at its value of the clock, and `Idle` at each value that has none
abbrev pub filled : ℕ → List (ℕ × Change) → ℕ → List Change
filled from [] to = idle (to - from)
filled from (s ∷ steps) to = idle (s.0 - from) ++ s.1 ∷ filled (s.0 + 1) steps to

-- the values of the clock rise, from the first one on, and are below the last
abbrev pub Rises : ℕ → List (ℕ × Change) → ℕ → Type 0
Rises from [] to = from ≤ to
Rises from (s ∷ steps) to = (from ≤ s.0) × Rises (s.0 + 1) steps to

-- the log of the story, and for how many changes more there is room
pub record Shown : Type 0 where
  pub log : List Change
  pub room : ℕ

abbrev pub coded_history : Coded Shown
coded_history = code_by (List Change × ℕ) (coded× (coded_list coded_change) coded_ℕ) (λ r. (r.log, r.room))
    (λ p. record { log = p.0; room = p.1 }) (λ _. refl)

-- how many bytes a change appends
abbrev pub appended_by : Change → ℕ
appended_by (Created path) = 0
appended_by (Named op) = 0
appended_by (Appended id bytes) = length bytes
appended_by (Synced id) = 0
appended_by Names_synced = 0
appended_by Idle = 0

-- how many bytes were appended
abbrev pub appended_in : List Change → ℕ
appended_in [] = 0
appended_in (c ∷ cs) = appended_by c + appended_in cs

-- the count, which stays at its last value
abbrev pub IsCount : ℕ → List Change → Type 0
IsCount count log = count ≡ min (appended_in log) (2 ^ 64 - 1)
