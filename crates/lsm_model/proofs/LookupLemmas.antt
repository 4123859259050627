-- What a plain store's look-ups find.
use Rattle.std.specs.Prelude.{◌≡◌, ℕ, ◌+◌, ◌-◌, true, false, not, ◌==◌, cond, List, [], ◌∷◌, length, drop, take, sum_by}
use Rattle.std.proofs.Common.{refl, ap, arith}
use Rattle.std.specs.List.{filter}
use Rattle.std.proofs.lemmas.List.Sums.{sum_by-cons, sum_by-take-drop}
use Rattle.lsm_rows.specs.declared.operations.Op.{Op}
use Rattle.lsm_rows.specs.Replay.{sequence_after}
use Rattle.lsm_model.specs.declared.states.Pin.{Pin}
use Rattle.lsm_model.specs.States.{without_pin}

-- all pins but those of a number
pub without_filtered : (number : ℕ) (pins : List Pin) → filter (λ (pin : Pin). not (pin.number == number)) pins ≡ without_pin number pins
without_filtered number [] = refl
without_filtered number (pin ∷ pins) =
    elim (pin.number == number) as (λ b. cond (not b) (pin ∷ filter (λ (p : Pin). not (p.number == number)) pins) (filter (λ (p : Pin). not (p.number == number)) pins) ≡ cond b (without_pin number pins) (pin ∷ without_pin number pins)) [
      | true ↦ without_filtered number pins
      | false ↦ ap (λ (l : List Pin). pin ∷ l) (without_filtered number pins)
    ]

-- the sequence counts the operations
sequence_sum : (start : ℕ) (xs : List (List Op)) → sequence_after start xs ≡ start + sum_by length xs
sequence_sum start [] = omega arith
sequence_sum start (x ∷ xs) =
    let more = sequence_sum (start + length x) xs in
    let first = sum_by-cons length x xs in
    omega (arith, more, first)

-- the sequence after a front of the batches
pub sequence_front : (n : ℕ) (xs : List (List Op)) → sequence_after 0 xs - sum_by length (drop n xs) ≡ sequence_after 0 (take n xs)
sequence_front n xs =
    let whole = sequence_sum 0 xs in
    let front = sequence_sum 0 (take n xs) in
    let parts = sum_by-take-drop length xs n in
    omega (arith, whole, front, parts)
