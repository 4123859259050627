-- What a holding leaves of its pass.
use Rattle.std.proofs.Common.{◌≡◌, ℕ, List, [], ◌∷◌, ◌++◌, length, refl, ap, ◌∙◌, arith, Option, Bool, true, false}
use Rattle.std.proofs.lemmas.List.{append-nil}
use Rattle.atomic_table.specs.Table.{Me}
use Rattle.turn_lock.specs.declared.view.View.{View}
use Rattle.turn_lock.specs.declared.turn.Pass.{Pass}
use Rattle.turn_lock.specs.Lists.{picked, tagged, noted, grown, first_lane, first_own}
use Rattle.turn_lock.specs.Views.{entered, idle}
use Rattle.turn_lock.specs.Passes.{lane, seen, own, start_of, HasTurn, IsFree, seen_with, own_with}
use Rattle.turn_lock.proofs.Lanes.{noted_long, noted_first}

module _ {E : Type 0} where
  pub grows : (n : ℕ) (entry : E) (history : List (ℕ × E)) (b : Bool) → history ++ tagged n (picked entry b) ≡ grown n entry history b
  grows n entry history true = refl
  grows n entry history false = append-nil history

  own_noted : (ms : List (ℕ × List (ℕ × E))) (more : List E) → length ms ≡ 1
      → first_own (noted ms more) ≡ first_own ms ++ tagged (first_lane ms) more
  own_noted [] more one = absurd (omega arith)
  own_noted (m ∷ ms) more one = refl

module _ {V S E : Type 0} where
  -- the pass as it is left where this was entered
  abbrev pub Gives : Pass V S E → E → Bool → Pass V S E → Type 0
  Gives before entry b after = after.seat.me ≡ (idle (entered before.seat.me.0 (picked entry b)), [])

  pub gave_lane : (before after : Pass V S E) (entry : E) (b : Bool) → Gives before entry b after → lane after ≡ lane before
  gave_lane before after entry b is = ap (λ (m : Me (Option V) (View S E)). first_lane m.0.mine) is
      ∙ noted_first before.seat.me.0.mine (picked entry b)

  pub gave_start : (before after : Pass V S E) (entry : E) (b : Bool) → Gives before entry b after → start_of after ≡ start_of before
  gave_start before after entry b is = ap (λ (m : Me (Option V) (View S E)). m.0.start) is

  pub gave_free : (before after : Pass V S E) (entry : E) (b : Bool) → Gives before entry b after → HasTurn before → IsFree after
  gave_free before after entry b is has = (
    (ap (λ (m : Me (Option V) (View S E)). m.0.stage) is, ap (λ (m : Me (Option V) (View S E)). m.1) is),
    ap (λ (m : Me (Option V) (View S E)). length m.0.mine) is ∙ noted_long before.seat.me.0.mine (picked entry b) ∙ has.1,
  )

  pub gave_seen : (before after : Pass V S E) (entry : E) (b : Bool) → Gives before entry b after → seen after ≡ seen_with entry before b
  gave_seen before after entry b is = ap (λ (m : Me (Option V) (View S E)). m.0.seen) is ∙ grows (lane before) entry (seen before) b

  pub gave_own : (before after : Pass V S E) (entry : E) (b : Bool) → Gives before entry b after → HasTurn before
      → own after ≡ own_with entry before b
  gave_own before after entry b is has =
      ap (λ (m : Me (Option V) (View S E)). first_own m.0.mine) is ∙ own_noted before.seat.me.0.mine (picked entry b) has.1
      ∙ grows (lane before) entry (own before) b
