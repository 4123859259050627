-- What stands at a place, from the bytes of its block alone.
use Rattle.std.proofs.Common.{◌≡◌, inl, inr, ℕ, ◌+◌, ◌-◌, ◌<◌, ◌≤◌, true, false, List, ◌++◌, length, take, drop, ap, sym, ◌∙◌, arith}
use Rattle.std.proofs.lemmas.List.{length-append, length-drop, length-take, take_all, take-append-drop, take-append-le, drop-append-le}
use Rattle.std.proofs.lemmas.Bool.{cases_lt}
use Rattle.std.proofs.lemmas.Bool.Decides.{nat_tests}
use Rattle.lsm_frame.specs.Frames.{filling, start}
use Rattle.lsm_frame.specs.Records.{piece_at, here, size}
use Rattle.lsm_frame.specs.declared.ending.Ending.TheVariants.{End, Malformed}
use Rattle.lsm_frame.specs.Records.Here.{Stops, Goes}
use Rattle.lsm_frame.specs.declared.steps.Standing.{Standing}
use Rattle.lsm_frame.specs.declared.steps.Standing.TheVariants.{Nothing, Zeros, Whole}
use Rattle.lsm_frame.specs.Reading.{IsPiece, IsInside, IsStanding}
use Rattle.lsm_frame.proofs.Here.{piece_past, piece_whole, same_size, same_judged, zeros, here_zeros, here_filled, here_short}

-- where a header fits, nothing fills the block
pub here_fitting : (place offset : ℕ) (t : List ℕ) → offset ≤ 32761 → here place offset t ≡ piece_at place offset t
here_fitting place offset t fits =
    let none : filling offset ≡ 0 = grind (arith, nat_tests) in
    let same : start offset ≡ offset = grind (arith, nat_tests) in
    let at : place + 0 ≡ place = omega arith in
    here_zeros place offset t (ap (λ (n : ℕ). zeros (take n t)) none)
    ∙ ap (λ (n : ℕ). piece_at (place + n) (start offset) (drop n t)) none
    ∙ ap (λ (n : ℕ). piece_at n (start offset) t) at
    ∙ ap (λ (n : ℕ). piece_at place n t) same

-- a whole block tells what a piece in it is
whole_block : (place offset : ℕ) (r u : List ℕ) → offset ≤ 32761 → length r ≡ 32768 - offset → piece_at place offset (r ++ u) ≡ piece_at place offset r
whole_block place offset r u fits long =
    let head : 7 ≤ length r = omega arith in
    elim (cases_lt 32768 (offset + 7 + size r)) [
      | inl past ↦ piece_past place offset (r ++ u) (omega (arith, length-append r u)) (rw (same_size r u head) past) ∙ sym (piece_past place offset r head past)
      | inr inside ↦
          let whole : 7 + size r ≤ length r = omega arith in
          piece_whole place offset (r ++ u) (rw (same_size r u head) (omega (arith, length-append r u))) (rw (same_size r u head) inside) ∙ same_judged place r u whole ∙ sym (piece_whole place offset r whole inside)
    ]

-- what stands behind the block tells nothing of a piece in it
pub piece_in_block : (place offset : ℕ) (r t : List ℕ) → offset ≤ 32761 → r ≡ take (32768 - offset) t → piece_at place offset t ≡ piece_at place offset r
piece_in_block place offset r t fits e = elim (cases_lt (32768 - offset) (length t)) [
  | inr short ↦ ap (λ (l : List ℕ). piece_at place offset l) (sym (e ∙ take_all (32768 - offset) t short))
  | inl more ↦
      ap (λ (l : List ℕ). piece_at place offset l) (sym (take-append-drop (32768 - offset) t) ∙ ap (λ (l : List ℕ). l ++ drop (32768 - offset) t) (sym e))
      ∙ whole_block place offset r (drop (32768 - offset) t) fits (ap (λ (l : List ℕ). length l) e ∙ length-take (32768 - offset) t ∙ omega arith)
]

-- nor of its part
pub part_in_block : (n part : ℕ) (r t : List ℕ) → r ≡ take n t → 7 + part ≤ length r → take part (drop 7 r) ≡ take part (drop 7 t)
part_in_block n part r t e whole =
    let split : r ++ drop n t ≡ t = ap (λ (l : List ℕ). l ++ drop n t) e ∙ take-append-drop n t in
    sym (ap (λ (l : List ℕ). take part (drop 7 l)) (sym split) ∙ ap (λ (l : List ℕ). take part l) (drop-append-le 7 r (drop n t) (omega arith)) ∙ take-append-le part (drop 7 r) (drop n t) (omega (arith, length-drop 7 r)))

pub standing_piece : (place offset : ℕ) (r : List ℕ) (s : Standing) → offset ≤ 32761 → IsPiece place offset r s → IsInside offset (length r) s → (t : List ℕ) → r ≡ take (32768 - offset) t → IsStanding place offset t s
standing_piece place offset r (Nothing e) fits is inside t block = here_fitting place offset t fits ∙ piece_in_block place offset r t fits block ∙ is
standing_piece place offset r Zeros fits is inside t block = absurd is
standing_piece place offset r (Whole kind part) fits is inside t block = (
  fits,
  here_fitting place offset t fits ∙ piece_in_block place offset r t fits block ∙ is
      ∙ ap (λ (l : List ℕ). Goes (record { place = place; kind = kind; part = l })) (part_in_block (32768 - offset) part r t block inside),
)

-- the zeros that end a block are its last bytes
filling_is : (offset : ℕ) → 32761 < offset → filling offset ≡ 32768 - offset
filling_is offset over = grind (arith, nat_tests)

pub standing_zeros : (offset : ℕ) (r t : List ℕ) → 32761 < offset → r ≡ take (32768 - offset) t → zeros (take (filling offset) t) ≡ zeros r
standing_zeros offset r t over block = ap (λ (n : ℕ). zeros (take n t)) (filling_is offset over) ∙ ap (λ (l : List ℕ). zeros l) (sym block)

pub standing_filled : (place offset : ℕ) (r t : List ℕ) → 32761 < offset → zeros r ≡ false → r ≡ take (32768 - offset) t → here place offset t ≡ Stops (Malformed place)
standing_filled place offset r t over bad block = here_filled place offset t (standing_zeros offset r t over block ∙ bad)

pub standing_short : (place offset : ℕ) (r t : List ℕ) → 32761 < offset → length r < 32768 - offset → zeros r ≡ true → r ≡ take (32768 - offset) t → here place offset t ≡ Stops End
standing_short place offset r t over short clean block =
    let few : length t ≤ 32768 - offset = omega (arith, ap (λ (l : List ℕ). length l) block, length-take (32768 - offset) t) in
    let all : r ≡ t = block ∙ take_all (32768 - offset) t few in
    here_short place offset t (rw (filling_is offset over) few) (ap (λ (l : List ℕ). zeros l) (sym all) ∙ clean)
