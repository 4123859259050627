-- The rule of the turn, over any meaning of the locked value: what holds between any two steps.
use Rattle.std.specs.Prelude.{◌≡◌, ℕ, ◌+◌, ◌%◌, ◌^◌, ◌<◌, ◌≤◌, ◌⊎◌, List, [], ◌∷◌, length, Option, Some, None}
use Rattle.std.specs.List.{AllByRecursion}
use mathlib.Core.Option as logic
use mathlib.Core.List.{IsPrefix}
use lib.ListN.{get_elem?}
use Rattle.atomic_table.specs.Table.{State}
use Rattle.turn_lock.specs.declared.view.View.{View}
use Rattle.turn_lock.specs.declared.view.Stage.{Stage}
use Rattle.turn_lock.specs.declared.view.Stage.TheVariants.{Founds, Places, Idle, Waits, Holds, Spent}
use Rattle.turn_lock.specs.Lists.{total, own_entries}
use Rattle.turn_lock.specs.Views.{pending, lane_in, lanes_in, tickets_in, founder, placer}

-- the lane is one of the turn's, and its own entries are those that the history has of it, each once and in order
abbrev pub IsOwn : {E : Type 0} → ℕ → List (ℕ × E) → ℕ × List (ℕ × E) → Type 0
IsOwn passes history lane = (lane.0 < passes) × (own_entries lane.0 history ≡ lane.1)

module _ {S E : Type 0} where
  -- what a view knows, by its stage, where so many tickets were drawn and this one is served.
  -- Only the view whose ticket is served has seen the whole history for sure
  abbrev pub Fits : S → List (ℕ × E) → ℕ → ℕ → View S E → Stage → Type 0
  Fits start history tickets serving v Founds = ⊥
  Fits start history tickets serving v Places = ⊥
  Fits start history tickets serving v Idle = (v.start ≡ Some start) × IsPrefix v.seen history × (0 < length v.mine)
  Fits start history tickets serving v Waits =
      (v.start ≡ Some start) × IsPrefix v.seen history × (serving ≤ v.ticket) × (v.ticket < tickets) × (0 < length v.mine)
  Fits start history tickets serving v Holds =
      (v.start ≡ Some start) × (v.seen ≡ history) × (v.ticket ≡ serving) × (v.ticket < tickets) × (0 < length v.mine)
  Fits start history tickets serving v Spent = (v.seen ≡ []) × (v.mine ≡ [])

  -- the start, and a first part of the history
  abbrev pub IsHeard : S → List (ℕ × E) → Option S × List (ℕ × E) → Type 0
  IsHeard start history told = (told.0 ≡ Some start) × IsPrefix told.1 history

  -- the lanes of a view have their own entries, and what it has heard is so
  abbrev pub HasOwn : ℕ → S → List (ℕ × E) → View S E → Type 0
  HasOwn passes start history v = AllByRecursion (IsOwn passes history) v.mine × AllByRecursion (IsHeard start history) v.heard

  -- some view has the slot, and may step on the history's length
  abbrev pub HasHolder : List (View S E) → Type 0
  HasHolder views = (by : ℕ) × (v : View S E) × (get_elem? views by ≡ logic.some v) × (v.stage ≡ Holds)

  -- each ticket is held by one view
  abbrev pub AreApart : List (View S E) → Type 0
  AreApart views = (i j : ℕ) (v w : View S E) → get_elem? views i ≡ logic.some v → get_elem? views j ≡ logic.some w
      → pending v.stage ≡ 1 → pending w.stage ≡ 1 → v.ticket ≡ w.ticket → i ≡ j

  -- some view with a lane has seen the whole history
  abbrev pub IsSeen : List (ℕ × E) → List (View S E) → Type 0
  IsSeen history views =
      (by : ℕ) × (v : View S E) × (get_elem? views by ≡ logic.some v) × (v.seen ≡ history) × (0 < length v.mine)

  module _ {V : Type 0} where
    -- the value is at home and follows the history, and no view holds it
    abbrev pub IsHome : (S → V → List (ℕ × E) → Type 0) → S → List (ℕ × E) → List (logic.Option (Option V)) → List (View S E) → Type 0
    IsHome follows start history homes views =
        (value : V) × (homes ≡ logic.some (Some value) ∷ []) × follows start value history × ¬ (HasHolder views)

    -- or it is out with the view that holds it
    abbrev pub IsOut : List (logic.Option (Option V)) → List (View S E) → Type 0
    IsOut homes views = (homes ≡ logic.none ∷ []) × HasHolder views

    -- a turn with so many passes: one start, one history, and the true counts of tickets drawn and served
    pub record IsKept (passes : ℕ) (follows : S → V → List (ℕ × E) → Type 0) (s : State (Option V) (View S E)) : Type 0 where
      pub start : S
      pub history : List (ℕ × E)
      pub tickets : ℕ
      pub serving : ℕ
      -- the words: the next ticket, the ticket that is served, and the history's length, each modulo 2^64
      pub words : s.words ≡ tickets % 2 ^ 64 ∷ serving % 2 ^ 64 ∷ length history % 2 ^ 64 ∷ []
      pub few : passes < 2 ^ 64
      -- each lane stands in one view at most, and in all there are as many as passes
      pub dealt : total lanes_in s.views ≡ passes
      pub once : (n : ℕ) → total (lane_in n) s.views ≤ 1
      -- the tickets that views hold are the numbers from the served one up to the next, each held by one view
      pub counted : total tickets_in s.views + serving ≡ tickets
      pub apart : AreApart s.views
      pub each : (by : ℕ) (v : View S E) → get_elem? s.views by ≡ logic.some v → Fits start history tickets serving v v.stage
      -- the entries of each lane in the history are its own, and no other number has an entry
      pub mine : (by : ℕ) (v : View S E) → get_elem? s.views by ≡ logic.some v → HasOwn passes start history v
      pub known : AllByRecursion (λ (entry : ℕ × E). entry.0 < passes) history
      pub whole : IsSeen history s.views
      pub placed : IsHome follows start history s.homes s.views ⊎ IsOut s.homes s.views

    -- before the start is picked: no value is at home, and the founder is the one view
    abbrev pub IsFounding : ℕ → State (Option V) (View S E) → Type 0
    IsFounding passes s = (0 < passes) × (passes < 2 ^ 64) × (s.words ≡ 0 ∷ 0 ∷ 0 ∷ [])
        × (((s.views ≡ founder passes ∷ []) × (s.homes ≡ logic.some None ∷ []))
        ⊎ ((s.views ≡ placer passes ∷ []) × (s.homes ≡ logic.none ∷ [])))

    abbrev pub IsTurn : ℕ → (S → V → List (ℕ × E) → Type 0) → State (Option V) (View S E) → Type 0
    IsTurn passes follows s = IsFounding passes s ⊎ IsKept passes follows s
