-- Passes: what callers say of a turn, its passes and a holding.
use Rattle.std.specs.Prelude.{◌≡◌, ℕ, ◌<◌, ◌≤◌, List, [], length, slice_index_or, All, Option, Some, Bool}
use Rattle.std.specs.List.{AllByRecursion}
use mathlib.Core.List.{IsPrefix}
use Rattle.turn_lock.specs.declared.turn.Turn.{Turn}
use Rattle.turn_lock.specs.declared.turn.Pass.{Pass}
use Rattle.turn_lock.specs.declared.turn.Held.{Held}
use Rattle.turn_lock.specs.Lists.{total, is_lane, own_entries, grown, picked, first_lane, first_own}
use Rattle.turn_lock.specs.Views.{entered}
use Rattle.turn_lock.specs.Steps.{IsIdle, HasSlot, FollowsFrom}

module _ {V S E : Type 0} where
  -- how many passes the turn was dealt with
  abbrev pub passes_of : Turn V S E → ℕ
  passes_of turn = turn.table.shared.key

  -- the number of the pass's lane, the start, the first part of the history that it has seen, and its own entries
  abbrev pub lane : Pass V S E → ℕ
  lane pass = first_lane pass.seat.me.0.mine

  abbrev pub start_of : Pass V S E → Option S
  start_of pass = pass.seat.me.0.start

  abbrev pub seen : Pass V S E → List (ℕ × E)
  seen pass = pass.seat.me.0.seen

  abbrev pub own : Pass V S E → List (ℕ × E)
  own pass = first_own pass.seat.me.0.mine

  -- the pass is one of this turn's
  abbrev pub IsPassOf : Turn V S E → Pass V S E → Type 0
  IsPassOf turn pass = pass.seat.table_id ≡ turn.table.shared.table_id

  -- the same pass, of the same turn: lane and start are as they were
  abbrev pub IsSamePass : Pass V S E → Pass V S E → Type 0
  IsSamePass before after = (after.seat.table_id ≡ before.seat.table_id) × (lane after ≡ lane before) × (start_of after ≡ start_of before)

  -- the pass has one lane and no holding
  abbrev pub IsFree : Pass V S E → Type 0
  IsFree pass = IsIdle pass.seat.me × (length pass.seat.me.0.mine ≡ 1)

  -- the pass has one lane and a holding
  abbrev pub HasTurn : Pass V S E → Type 0
  HasTurn pass = HasSlot pass.seat.me × (length pass.seat.me.0.mine ≡ 1)

  -- the holding was taken by this pass, as it stands
  abbrev pub IsHeldBy : Held V S E → Pass V S E → Type 0
  IsHeldBy held pass = held.by.value ≡ pass.seat

  -- the value follows these entries from the pass's start
  abbrev pub FollowsFor : (S → V → List (ℕ × E) → Type 0) → Pass V S E → V → List (ℕ × E) → Type 0
  FollowsFor follows pass value history = FollowsFrom follows (start_of pass) value history

  -- the pass's history with its entry behind it, or as it was
  abbrev pub seen_with : E → Pass V S E → Bool → List (ℕ × E)
  seen_with entry pass is_entered = grown (lane pass) entry (seen pass) is_entered

  -- its own entries likewise
  abbrev pub own_with : E → Pass V S E → Bool → List (ℕ × E)
  own_with entry pass is_entered = grown (lane pass) entry (own pass) is_entered

  -- in its holding the pass has entered this, or nothing
  abbrev pub Entering : E → Pass V S E → Bool → Pass V S E → Type 0
  Entering entry before is_entered after = after.seat.me ≡ (entered before.seat.me.0 (picked entry is_entered), before.seat.me.1)

  -- a pass as it is dealt
  pub record IsNew (turn : Turn V S E) (number : ℕ) (start : S) (pass : Pass V S E) : Type 0 where
    pub table : IsPassOf turn pass
    pub free : IsFree pass
    pub lane_is : lane pass ≡ number
    pub start_is : start_of pass ≡ Some start
    pub seen_is : seen pass ≡ []
    pub own_is : own pass ≡ []

  -- the passes as they are dealt: the lanes are numbered from 0
  abbrev pub AreNew : Turn V S E → S → List (Pass V S E) → Type 0
  AreNew turn start passes = (k : ℕ) (d : Pass V S E) → k < length passes → IsNew turn k start (slice_index_or passes k d)

  -- the pass may be given back to this turn
  abbrev pub MayClose : Turn V S E → Pass V S E → Type 0
  MayClose turn pass = IsPassOf turn pass × IsFree pass

  -- what a pass is to the joined history: its start is the history's, what it has seen begins it, and its own entries are
  -- those that the history has of its lane
  pub record IsPart (passes : ℕ) (start : S) (history : List (ℕ × E)) (pass : Pass V S E) : Type 0 where
    pub start_is : start_of pass ≡ Some start
    pub seen_is : IsPrefix (seen pass) history
    pub lane_is : lane pass < passes
    pub own_is : own_entries (lane pass) history ≡ own pass

  -- the joined history of all passes: the value follows it, every entry is of one of the lanes, no two passes have one
  -- lane, and some pass has seen all of it
  pub record IsJoined (follows : S → V → List (ℕ × E) → Type 0) (passes : List (Pass V S E)) (value : V) : Type 0 where
    pub start : S
    pub history : List (ℕ × E)
    pub follows_it : follows start value history
    pub known : AllByRecursion (λ (entry : ℕ × E). entry.0 < length passes) history
    pub each : All (IsPart (length passes) start history) passes
    pub apart : (n : ℕ) → total (λ pass. is_lane (lane pass) n) passes ≤ 1
    pub whole : (k : ℕ) × (d : Pass V S E) × (k < length passes) × (seen (slice_index_or passes k d) ≡ history)
