-- Reading goes on in the next block.
use Rattle.std.proofs.Common.{◌≡◌, inl, inr, ℕ, ◌+◌, ◌%◌, ◌<◌, ◌≤◌, suc, true, List, ◌∷◌, length, take, drop, Option, refl, ap, sym, ◌∙◌, arith}
use Rattle.std.proofs.lemmas.List.{length-drop, drop-drop}
use Rattle.std.proofs.lemmas.Bool.{cases_lt}
use Rattle.std.proofs.lemmas.Bool.Decides.{nat_tests}
use Rattle.lsm_frame.specs.Frames.{filling, start}
use Rattle.lsm_frame.specs.Records.{Ending, Piece, Here, here, piece_at, pieces, joined}
use Rattle.lsm_frame.specs.Records.Here.{Stops, Goes}
use Rattle.lsm_frame.specs.Reading.{reading}
use Rattle.lsm_frame.proofs.Here.{zeros, here_zeros}
use Rattle.lsm_frame.proofs.Resuming.{behind, pieces_stop, pieces_go}
use Rattle.lsm_frame.proofs.OnePiece.{same_steps}
use Rattle.lsm_frame.proofs.InBlock.{here_fitting}

start_is : (offset : ℕ) → 32761 < offset → start offset ≡ 0
start_is offset over = grind (arith, nat_tests)

-- what stands behind zeros that end a block stands at the start of the next one
here_next : (place offset : ℕ) (t : List ℕ) → 32761 < offset → zeros (take (filling offset) t) ≡ true → here place offset t ≡ here (place + filling offset) 0 (drop (filling offset) t)
here_next place offset t over clean =
    here_zeros place offset t clean
    ∙ ap (λ (n : ℕ). piece_at (place + filling offset) n (drop (filling offset) t)) (start_is offset over)
    ∙ sym (here_fitting (place + filling offset) 0 (drop (filling offset) t) (omega arith))

behind_next : (n offset : ℕ) (t : List ℕ) (p : Piece) → 32761 < offset → behind n offset t p ≡ behind n 0 (drop (filling offset) t) p
behind_next n offset t p over =
    ap (λ (k : ℕ). pieces n (p.place + 7 + length p.part) (k + 7 + length p.part) (drop (filling offset + 7 + length p.part) t)) (start_is offset over)
    ∙ ap (λ (l : List ℕ). pieces n (p.place + 7 + length p.part) (0 + 7 + length p.part) l) (ap (λ (k : ℕ). drop k t) (omega arith) ∙ sym (drop-drop (7 + length p.part) (filling offset) t))

pieces_next : (n place offset : ℕ) (t : List ℕ) (h : Here) → 32761 < offset → zeros (take (filling offset) t) ≡ true → here place offset t ≡ h → pieces (suc n) place offset t ≡ pieces (suc n) (place + filling offset) 0 (drop (filling offset) t)
pieces_next n place offset t (Stops e) over clean h =
    pieces_stop n place offset t e h ∙ sym (pieces_stop n (place + filling offset) 0 (drop (filling offset) t) e (sym (here_next place offset t over clean) ∙ h))
pieces_next n place offset t (Goes p) over clean h =
    pieces_go n place offset t p h
    ∙ ap (λ (r : List Piece × Ending). (p ∷ r.0, r.1)) (behind_next n offset t p over)
    ∙ sym (pieces_go n (place + filling offset) 0 (drop (filling offset) t) p (sym (here_next place offset t over clean) ∙ h))

-- behind zeros that end a block reading goes on at the start of the next one
pub reading_next : (begun : Option (ℕ × List ℕ)) (place offset : ℕ) (t : List ℕ) → 32761 < offset → zeros (take (filling offset) t) ≡ true → reading begun place offset t ≡ reading begun (place + filling offset) 0 (drop (filling offset) t)
unfolding reading
reading_next begun place offset t over clean =
    ap (λ (r : List Piece × Ending). joined begun r.0 r.1)
    (same_steps (length t) (suc (length t)) place offset t (omega arith) (omega arith)
    ∙ pieces_next (length t) place offset t (here place offset t) over clean refl
    ∙ same_steps (suc (length t)) (length (drop (filling offset) t)) (place + filling offset) 0 (drop (filling offset) t) (omega (arith, length-drop (filling offset) t)) (omega arith))

-- the end of a block is the start of the next one
reading_wraps : (begun : Option (ℕ × List ℕ)) (place : ℕ) (t : List ℕ) → reading begun place 32768 t ≡ reading begun place 0 t
reading_wraps begun place t = reading_next begun place 32768 t (omega arith) refl ∙ ap (λ (n : ℕ). reading begun n 0 t) (omega arith)

-- where a piece ends, by its place alone
pub reading_from : (begun : Option (ℕ × List ℕ)) (at size : ℕ) (t : List ℕ) → at % 32768 + size ≤ 32768 → reading begun (at + size) (at % 32768 + size) t ≡ reading begun (at + size) ((at + size) % 32768) t
reading_from begun at size t fits = elim (cases_lt (at % 32768 + size) 32768) [
  | inl less ↦ ap (λ (n : ℕ). reading begun (at + size) n t) (omega arith)
  | inr full ↦
      ap (λ (n : ℕ). reading begun (at + size) n t) (omega arith) ∙ reading_wraps begun (at + size) t ∙ ap (λ (n : ℕ). reading begun (at + size) n t) (omega arith)
]

-- where zeros end, by their place alone
pub left_next : (begun : Option (ℕ × List ℕ)) (at size : ℕ) (text : List ℕ) → 32761 < at % 32768 → at % 32768 + size ≡ 32768 → zeros (take (filling (at % 32768)) (drop at text)) ≡ true
    → reading begun at (at % 32768) (drop at text) ≡ reading begun (at + size) ((at + size) % 32768) (drop (at + size) text)
left_next begun at size text over sum clean =
    let fill : filling (at % 32768) ≡ size = grind (arith, nat_tests) in
    reading_next begun at (at % 32768) (drop at text) over clean
    ∙ ap (λ (n : ℕ). reading begun (at + n) 0 (drop n (drop at text))) fill
    ∙ ap (λ (l : List ℕ). reading begun (at + size) 0 l) (drop-drop size at text ∙ ap (λ (n : ℕ). drop n text) (omega arith))
    ∙ ap (λ (n : ℕ). reading begun (at + size) n (drop (at + size) text)) (omega arith)
