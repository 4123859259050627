-- Copying the front of what is left into the room for it.
use Rattle.std.proofs.Common.{◌≡◌, ◌<◌, ◌≤◌, min, ℕ, List, Option, Some, None, ◌+◌, ◌-◌, ◌∙◌, refl, ap, drop, take, [], ◌++◌, length, arith, append_assoc}
use Rattle.std.proofs.lemmas.List.{take_at, drop-drop, take-append-drop, take-take, drop-take, length-take, length-drop, drop_all}
use Rattle.std.specs.Io.KnownBytes.{Consumes}
use Rattle.lsm_io.specs.Buffer.{known_ahead}

-- what now stands at the front of the room is the front of what was left
front_of_room : (all room copied : List ℕ) (at n : ℕ) → at + n ≤ length all → copied ≡ take (at + n - at) (drop at all) → take n (copied ++ drop n room) ≡ take n (drop at all)
front_of_room all room copied at n within e =
    let count : at + n - at ≡ n = omega arith in
    let front : copied ≡ take n (drop at all) = e ∙ ap (λ (k : ℕ). take k (drop at all)) count in
    let size : length copied ≡ n = ap length front ∙ simp (length-take, length-drop) (omega arith) in
    take_at copied (drop n room) n size ∙ front

-- what is left is what was copied, and then the rest
pub front_copied : (all room copied : List ℕ) (at n : ℕ) → at + n ≤ length all → copied ≡ take (at + n - at) (drop at all) → drop at all ≡ take n (copied ++ drop n room) ++ drop (at + n) all
front_copied all room copied at n within e =
    rw (front_of_room all room copied at n within e, ← drop-drop n at all, take-append-drop) refl

-- where nothing was copied although there was room, nothing is left
pub nothing_left : (all : List ℕ) (at n room : ℕ) → 0 < room → n ≡ min room (length all - at) → n ≡ 0 → drop (at + n) all ≡ []
nothing_left all at n room some e none = drop_all (at + n) all (omega arith)

-- the bytes up to a place, in two parts
two_parts : (all : List ℕ) (at end n : ℕ) → at + n ≤ end → take (end - at) (drop at all) ≡ take n (drop at all) ++ take (end - (at + n)) (drop (at + n) all)
two_parts all at end n within =
    let sum : end - at ≡ n + (end - (at + n)) = omega arith in
    let less : n ≤ n + (end - (at + n)) = omega arith in
    rw (sum, ← drop-drop n at all, ← drop-take n (end - (at + n)) (drop at all), ← take-take n (n + (end - (at + n))) (drop at all) less, take-append-drop) refl

-- a buffer gives its front, and has the rest left
pub given_ahead : (buffer room copied : List ℕ) (at end n : ℕ) (below : Option (List ℕ)) → at + n ≤ end → end ≤ length buffer → copied ≡ take (at + n - at) (drop at buffer)
    → Consumes (known_ahead buffer at end below) (known_ahead buffer (at + n) end below) (take n (copied ++ drop n room))
given_ahead buffer room copied at end n None within inside e = tt
given_ahead buffer room copied at end n (Some xs) within inside e =
    rw (front_of_room buffer room copied at n (omega arith) e, two_parts buffer at end n within, append_assoc) refl
