-- Counts: what a counter is after its additions, and what a thread leaves of its pass.
use Rattle.std.specs.Prelude.{◌≡◌, ℕ, ◌+◌, ◌%◌, ◌^◌, List, [], ◌∷◌, ◌++◌}
use Rattle.tests_turn.specs.declared.counter.Count.{Count}
use Rattle.tests_turn.specs.declared.counter.Opening.{Opening}
use Rattle.tests_turn.specs.declared.counter.Addition.{Addition}
use Rattle.turn_lock.specs.declared.turn.Turn.{Turn}
use Rattle.turn_lock.specs.declared.turn.Pass.{Pass}
use Rattle.turn_lock.specs.Passes.{lane, start_of, own, MayClose, IsNew}

-- a start and an addition
abbrev pub opening : ℕ → Opening
opening n = record { n = n }

abbrev pub addition : ℕ → Addition
addition by = record { by = by }

-- the additions, added up
abbrev pub sum_of : List (ℕ × Addition) → ℕ
sum_of [] = 0
sum_of (more ∷ additions) = more.1.by + sum_of additions

-- the count is the start and all additions, modulo 2^64
abbrev pub counts : Opening → Count → List (ℕ × Addition) → Type 0
counts start count additions = count.n ≡ (start.n + sum_of additions) % 2 ^ 64

-- the pass has added this once more, and has no holding
pub record HasAdded (turn : Turn Count Opening Addition) (before : Pass Count Opening Addition) (by : ℕ) (after : Pass Count Opening Addition) : Type 0 where
  pub free : MayClose turn after
  pub lane_is : lane after ≡ lane before
  pub start_is : start_of after ≡ start_of before
  pub own_is : own after ≡ own before ++ (lane before, addition by) ∷ []

-- three new passes
pub record AreThree (turn : Turn Count Opening Addition) (start : ℕ) (first second third : Pass Count Opening Addition) : Type 0 where
  pub first_is : IsNew turn 0 (opening start) first
  pub second_is : IsNew turn 1 (opening start) second
  pub third_is : IsNew turn 2 (opening start) third
