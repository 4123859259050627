-- Closing: how the passes are joined, and what the pass that has every lane knows in the end.
use Rattle.std.specs.Prelude.{◌≡◌, ℕ, ◌<◌, ◌≤◌, List, [], ◌∷◌, Some}
use Rattle.std.specs.List.{AllByRecursion}
use Rattle.turn_lock.specs.declared.view.View.{View}
use Rattle.turn_lock.specs.declared.turn.Pass.{Pass}
use Rattle.turn_lock.specs.Views.{lane_in, both_of, spent}
use Rattle.turn_lock.specs.Rule.{HasOwn}

module _ {V S E : Type 0} where
  -- the view after all of these passes were joined, the last one first
  abbrev pub joined_view : List (Pass V S E) → View S E
  joined_view [] = spent
  joined_view (pass ∷ []) = pass.seat.me.0
  joined_view (pass ∷ (next ∷ passes)) = both_of (joined_view (next ∷ passes)) pass.seat.me.0

-- the value as it comes back to the view that has every lane, and the history that it follows
pub record IsEnded {V S E : Type 0} (passes : ℕ) (follows : S → V → List (ℕ × E) → Type 0) (v : View S E) (value : V) : Type 0 where
  pub start : S
  pub history : List (ℕ × E)
  pub follows_it : follows start value history
  pub known : AllByRecursion (λ (entry : ℕ × E). entry.0 < passes) history
  pub start_is : v.start ≡ Some start
  pub seen_is : v.seen ≡ history
  pub mine : HasOwn passes start history v
  pub apart : (n : ℕ) → lane_in n v ≤ 1
