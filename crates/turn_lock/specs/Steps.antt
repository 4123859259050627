-- Steps: what each kind of atomic step tells the pass that makes it, of the seat before, the number found and the seat after.
use Rattle.std.specs.Prelude.{◌≡◌, ℕ, ◌%◌, ◌^◌, ◌⊎◌, List, [], ◌∷◌, Option, Some, None}
use mathlib.Core.List.{IsPrefix}
use Rattle.atomic_table.specs.Table.{Me, Step}
use Rattle.turn_lock.specs.declared.view.View.{View}
use Rattle.turn_lock.specs.declared.view.Stage.TheVariants.{Idle, Holds}
use Rattle.turn_lock.specs.Views.{places, begins, waits, holds, entered, idle}

module _ {S E V : Type 0} where
  -- the founder has the empty slot
  abbrev pub Empties : Step (Option V) → Me (Option V) (View S E) → ℕ → Me (Option V) (View S E) → Type 0
  Empties s m found n = n ≡ (places m.0, (0, None) ∷ m.1)

  -- the value is at home, and its start is picked
  abbrev pub Starts : S → Step (Option V) → Me (Option V) (View S E) → ℕ → Me (Option V) (View S E) → Type 0
  Starts start s m found n = n ≡ (begins m.0 start, [])

  -- the pass has the ticket that it found
  abbrev pub Draws : Step (Option V) → Me (Option V) (View S E) → ℕ → Me (Option V) (View S E) → Type 0
  Draws s m found n = (ticket : ℕ) × (n ≡ (waits m.0 ticket, m.1)) × (found ≡ ticket % 2 ^ 64)

  -- the pass has taken the slot: what it had seen begins the history, and the value follows the history from the start
  pub record IsTaken (follows : S → V → List (ℕ × E) → Type 0) (m n : Me (Option V) (View S E)) : Type 0 where
    pub start : S
    pub history : List (ℕ × E)
    pub value : V
    pub me : n ≡ (holds m.0 history, (0, Some value) ∷ m.1)
    pub begins : m.0.start ≡ Some start
    pub seen : IsPrefix m.0.seen history
    pub follows_it : follows start value history

  -- where the pass's ticket is served, it takes the slot; else nothing changes
  abbrev pub Serves : (S → V → List (ℕ × E) → Type 0) → Step (Option V) → Me (Option V) (View S E) → ℕ → Me (Option V) (View S E) → Type 0
  Serves follows s m found n =
      ((found ≡ m.0.ticket % 2 ^ 64) × IsTaken follows m n) ⊎ (¬ (found ≡ m.0.ticket % 2 ^ 64) × (n ≡ m))

  -- the pass has entered these
  abbrev pub Enters : List E → Step (Option V) → Me (Option V) (View S E) → ℕ → Me (Option V) (View S E) → Type 0
  Enters more s m found n = n ≡ (entered m.0 more, m.1)

  -- the value is at home, and the pass has no holding
  abbrev pub Leaves : Step (Option V) → Me (Option V) (View S E) → ℕ → Me (Option V) (View S E) → Type 0
  Leaves s m found n = n ≡ (idle m.0, [])

  -- a seat without a holding, and one that has the slot, out of which the value was taken
  abbrev pub IsIdle : Me (Option V) (View S E) → Type 0
  IsIdle m = (m.0.stage ≡ Idle) × (m.1 ≡ [])

  abbrev pub HasSlot : Me (Option V) (View S E) → Type 0
  HasSlot m = (m.0.stage ≡ Holds) × (m.1 ≡ (0, None) ∷ [])

  -- the value follows the history from the start, which is known
  abbrev pub FollowsFrom : (S → V → List (ℕ × E) → Type 0) → Option S → V → List (ℕ × E) → Type 0
  FollowsFrom follows None value history = ⊥
  FollowsFrom follows (Some start) value history = follows start value history
