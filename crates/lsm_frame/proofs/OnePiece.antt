-- Reading one piece.
use Rattle.std.proofs.Common.{◌≡◌, ℕ, ◌+◌, ◌≤◌, zero, suc, List, [], ◌∷◌, length, drop, Option, Some, None, refl, ap, sym, ◌∙◌, arith}
use Rattle.std.proofs.lemmas.List.{length-drop}
use Rattle.lsm_frame.specs.Frames.{filling, start}
use Rattle.lsm_frame.specs.Records.{Ending, Piece, Here, Taken, here, pieces, taken, joined, joined_by, ended, records_of}
use Rattle.lsm_frame.specs.Reading.{reading}
use Rattle.lsm_frame.specs.declared.ending.Ending.TheVariants.{Malformed}
use Rattle.lsm_frame.specs.Records.Here.{Stops, Goes}
use Rattle.lsm_frame.specs.Records.Taken.{Ends, Adds, Wrong}
use Rattle.lsm_frame.proofs.Here.{here_fits, here_none}
use Rattle.lsm_frame.proofs.Resuming.{behind, no_pieces, pieces_go, pieces_empty}

-- how many steps are allowed doesn't matter
abbrev SameBelow : ℕ → Type 0
SameBelow n = (m place offset : ℕ) (t : List ℕ) → length t ≤ n → length t ≤ m → pieces n place offset t ≡ pieces m place offset t

by_steps : (n m place offset : ℕ) (t : List ℕ) → SameBelow n → length t ≤ suc n → length t ≤ m → (h : Here) → here place offset t ≡ h → pieces (suc n) place offset t ≡ pieces m place offset t
by_steps n m place offset t same ln lm (Stops e) h = no_pieces (suc n) place offset t e ln h ∙ sym (no_pieces m place offset t e lm h)
by_steps n zero place offset t same ln lm (Goes p) h = let none = here_none place offset t (omega arith) in absurd (cc)
by_steps n (suc m) place offset t same ln lm (Goes p) h =
    let fits = here_fits place offset t p h in
    let left = length-drop (filling offset + 7 + length p.part) t in
    pieces_go n place offset t p h
    ∙ ap (λ (r : List Piece × Ending). (p ∷ r.0, r.1)) (same m (p.place + 7 + length p.part) (start offset + 7 + length p.part) (drop (filling offset + 7 + length p.part) t) (omega (arith, left)) (omega (arith, left)))
    ∙ sym (pieces_go m place offset t p h)

pub same_steps : (n : ℕ) → SameBelow n
same_steps zero m place offset t ln lm = pieces_empty zero place offset t (omega arith) ∙ sym (pieces_empty m place offset t (omega arith))
same_steps (suc n) m place offset t ln lm = by_steps n m place offset t (same_steps n) ln lm (here place offset t) refl

-- an end
pub reading_stops : (begun : Option (ℕ × List ℕ)) (place offset : ℕ) (t : List ℕ) (e : Ending) → here place offset t ≡ Stops e → reading begun place offset t ≡ ([], ended begun e)
unfolding reading joined
reading_stops begun place offset t e h = ap (λ (r : List Piece × Ending). joined begun r.0 r.1) (no_pieces (length t) place offset t e (omega arith) h)

-- a piece
reading_goes : (begun : Option (ℕ × List ℕ)) (place offset : ℕ) (t : List ℕ) (p : Piece) → here place offset t ≡ Goes p
    → (ps : List Piece × Ending) × (reading begun place offset t ≡ joined begun (p ∷ ps.0) ps.1) × ((next : Option (ℕ × List ℕ)) → joined next ps.0 ps.1 ≡ reading next (p.place + 7 + length p.part) (start offset + 7 + length p.part) (drop (filling offset + 7 + length p.part) t))
unfolding reading
reading_goes begun place offset t p h =
    let fits = here_fits place offset t p h in
    let left = length-drop (filling offset + 7 + length p.part) t in
    let one : pieces (length t) place offset t ≡ pieces (suc (length t)) place offset t = same_steps (length t) (suc (length t)) place offset t (omega arith) (omega arith) in (
      behind (length t) offset t p,
      ap (λ (r : List Piece × Ending). joined begun r.0 r.1) (one ∙ pieces_go (length t) place offset t p h),
      λ (next : Option (ℕ × List ℕ)). ap (λ (r : List Piece × Ending). joined next r.0 r.1) (same_steps (length t) (length (drop (filling offset + 7 + length p.part) t)) (p.place + 7 + length p.part) (start offset + 7 + length p.part) (drop (filling offset + 7 + length p.part) t) (omega (arith, left)) (omega arith)),
    )

joined_takes : (begun : Option (ℕ × List ℕ)) (p : Piece) (ps : List Piece) (e : Ending) (t : Taken) → taken begun p ≡ t → joined begun (p ∷ ps) e ≡ joined_by t p.place (joined None ps e) (λ (r : ℕ × List ℕ). joined (Some r) ps e)
unfolding joined
joined_takes begun p ps e t h = ap (λ (t : Taken). joined_by t p.place (joined None ps e) (λ (r : ℕ × List ℕ). joined (Some r) ps e)) h

pub reading_adds : (begun : Option (ℕ × List ℕ)) (place offset : ℕ) (t : List ℕ) (p : Piece) (made : ℕ × List ℕ) → here place offset t ≡ Goes p → taken begun p ≡ Adds made
    → reading begun place offset t ≡ reading (Some made) (p.place + 7 + length p.part) (start offset + 7 + length p.part) (drop (filling offset + 7 + length p.part) t)
reading_adds begun place offset t p made h k = let g = reading_goes begun place offset t p h in g.1 ∙ joined_takes begun p g.0.0 g.0.1 (Adds made) k ∙ g.2 (Some made)

pub reading_ends : (begun : Option (ℕ × List ℕ)) (place offset : ℕ) (t : List ℕ) (p : Piece) (made : ℕ × List ℕ) → here place offset t ≡ Goes p → taken begun p ≡ Ends made
    → reading begun place offset t ≡ (made ∷ (reading None (p.place + 7 + length p.part) (start offset + 7 + length p.part) (drop (filling offset + 7 + length p.part) t)).0, (reading None (p.place + 7 + length p.part) (start offset + 7 + length p.part) (drop (filling offset + 7 + length p.part) t)).1)
reading_ends begun place offset t p made h k = let g = reading_goes begun place offset t p h in g.1 ∙ joined_takes begun p g.0.0 g.0.1 (Ends made) k ∙ ap (λ (r : List (ℕ × List ℕ) × Ending). (made ∷ r.0, r.1)) (g.2 None)

pub reading_wrong : (begun : Option (ℕ × List ℕ)) (place offset : ℕ) (t : List ℕ) (p : Piece) → here place offset t ≡ Goes p → taken begun p ≡ Wrong → reading begun place offset t ≡ ([], Malformed p.place)
reading_wrong begun place offset t p h k = let g = reading_goes begun place offset t p h in g.1 ∙ joined_takes begun p g.0.0 g.0.1 Wrong k

pub reading_all : (text : List ℕ) → records_of text ≡ reading None 0 0 text
unfolding reading records_of
reading_all text = refl
