-- A text whose pieces are those of a log, where they stand.
use Rattle.std.proofs.Common.{◌≡◌, inl, inr, ℕ, ◌+◌, ◌≤◌, zero, suc, List, [], ◌∷◌, ◌++◌, length, take, drop, map, Option, Some, None, refl, ap, sym, subst, ◌∙◌, arith}
use Rattle.std.proofs.lemmas.List.{drop-drop, length-drop, append-nil, map-append}
use Rattle.lsm_frame.specs.Frames.{filling, start, log_text}
use Rattle.lsm_frame.specs.Records.{Ending, Piece, Here, Taken, here, pieces, taken, joined, joined_by, records_of, front, end_of}
use Rattle.lsm_frame.specs.Chance.{met, met_by, IsAlikeAt, Each, IsFreeOfChance}
use Rattle.lsm_frame.specs.Growth.{IsOpen, Extends}
use Rattle.lsm_frame.specs.Begins.{Begins}
use Rattle.lsm_frame.specs.declared.ending.Ending.TheVariants.{End}
use Rattle.lsm_frame.specs.Records.Here.{Stops, Goes}
use Rattle.lsm_frame.specs.Records.Taken.{Ends, Adds, Wrong}
use Rattle.lsm_frame.proofs.Here.{Fits, here_alike, here_fits, here_none}
use Rattle.lsm_frame.proofs.Joins.{joined_extends}
use Rattle.lsm_frame.proofs.Resuming.{behind, pieces_stop, pieces_go, no_pieces}
use Rattle.lsm_frame.proofs.Appended.{joined_end, front_log}

-- the pieces that were met make the same records
joined_met : (ps : List Piece) (begun : Option (ℕ × List ℕ)) (e : Ending) → (joined begun ps e).0 ≡ (joined begun (met begun ps) End).0
unfolding joined met
joined_met [] begun e = refl
joined_met (p ∷ ps) begun e = by_met (taken begun p) refl (joined_met ps None e) (λ (r : ℕ × List ℕ). joined_met ps (Some r) e)
  where
    by_met : (t : Taken) → taken begun p ≡ t → (joined None ps e).0 ≡ (joined None (met None ps) End).0 → ((r : ℕ × List ℕ) → (joined (Some r) ps e).0 ≡ (joined (Some r) (met (Some r) ps) End).0)
        → (joined_by (taken begun p) p.place (joined None ps e) (λ (r : ℕ × List ℕ). joined (Some r) ps e)).0 ≡ (joined begun (met_by (taken begun p) p (met None ps) (λ (r : ℕ × List ℕ). met (Some r) ps)) End).0
    by_met (Ends made) is h k = rw (is, is) (ap (λ (l : List (ℕ × List ℕ)). made ∷ l) h)
    by_met (Adds made) is h k = rw (is, is) (k made)
    by_met Wrong is h k = rw is refl

-- the pieces from a place of the text on
abbrev From : ℕ → ℕ → ℕ → List ℕ → List Piece × Ending
From n place offset text = pieces n place offset (drop place text)

behind_is : (n place offset : ℕ) (p : Piece) (t : List ℕ) → p.place ≡ place + filling offset → behind n offset (drop place t) p ≡ From n (p.place + 7 + length p.part) (start offset + 7 + length p.part) t
behind_is n place offset p t e = ap (λ (l : List ℕ). pieces n (p.place + 7 + length p.part) (start offset + 7 + length p.part) l) (drop-drop (filling offset + 7 + length p.part) place t ∙ ap (λ (k : ℕ). drop k t) (omega arith))

from_goes : (n place offset : ℕ) (p : Piece) (t : List ℕ) → p.place ≡ place + filling offset → here place offset (drop place t) ≡ Goes p → From (suc n) place offset t ≡ (p ∷ (From n (p.place + 7 + length p.part) (start offset + 7 + length p.part) t).0, (From n (p.place + 7 + length p.part) (start offset + 7 + length p.part) t).1)
from_goes n place offset p t e h = pieces_go n place offset (drop place t) p h ∙ ap (λ (r : List Piece × Ending). (p ∷ r.0, r.1)) (behind_is n place offset p t e)

-- the log has a piece that the text has with the log's bytes
free_more : (m place offset : ℕ) (a b : List ℕ) (p : Piece) → here place offset (drop place b) ≡ Goes p → length (drop place a) ≤ m → IsOpen (From m place offset a).1 → IsAlikeAt a b p
    → (k : ℕ) × (length (drop (p.place + 7 + length p.part) a) ≤ k) × (From m place offset a ≡ (p ∷ (From k (p.place + 7 + length p.part) (start offset + 7 + length p.part) a).0, (From k (p.place + 7 + length p.part) (start offset + 7 + length p.part) a).1))
free_more m place offset a b p h short may alike = go m short may
  where
    fits : Fits (place + filling offset) (start offset) (drop (filling offset) (drop place b)) p
    fits = here_fits place offset (drop place b) p h

    there : (t : List ℕ) → drop p.place t ≡ drop (filling offset) (drop place t)
    there t = ap (λ (k : ℕ). drop k t) (fits.is_at) ∙ sym (drop-drop (filling offset) place t)

    mine : (m : ℕ) → length (drop place a) ≤ m → IsOpen (From m place offset a).1 → here place offset (drop place a) ≡ Goes p
    mine m short may = here_alike place offset (drop place a) (drop place b) p
        (λ (e : Ending) (s : here place offset (drop place a) ≡ Stops e). subst (λ (r : List Piece × Ending). IsOpen r.1) (no_pieces m place offset (drop place a) e short s) may)
        h (ap (λ (l : List ℕ). take (7 + length p.part) l) (sym (there a)) ∙ alike ∙ ap (λ (l : List ℕ). take (7 + length p.part) l) (there b))

    go : (m : ℕ) → length (drop place a) ≤ m → IsOpen (From m place offset a).1 → (k : ℕ) × (length (drop (p.place + 7 + length p.part) a) ≤ k) × (From m place offset a ≡ (p ∷ (From k (p.place + 7 + length p.part) (start offset + 7 + length p.part) a).0, (From k (p.place + 7 + length p.part) (start offset + 7 + length p.part) a).1))
    go zero short may = let is = mine zero short may in let none = here_none place offset (drop place a) (omega arith) in absurd (cc)
    go (suc m) short may = (m, omega (arith, fits.is_at, length-drop place a, length-drop (p.place + 7 + length p.part) a), from_goes m place offset p a fits.is_at (mine (suc m) short may))

begins_cons : (p : Piece) (front whole : List Piece) (all : List Piece × Ending) (e : Ending) → all ≡ (p ∷ whole, e) → Begins front whole → Begins (p ∷ front) all.0
begins_cons p front whole all e is b = record { rest = b.rest; is = ap (λ (r : List Piece × Ending). r.0) is ∙ ap (λ (l : List Piece). p ∷ l) b.is }

-- what is met of the rest
abbrev Later : ℕ → ℕ → ℕ → List ℕ → List ℕ → Type 0
Later n place offset a b = (m : ℕ) (begun : Option (ℕ × List ℕ)) → length (drop place a) ≤ m → IsOpen (From m place offset a).1 → Each (IsAlikeAt a b) (met begun (From n place offset b).0) → Begins (met begun (From n place offset b).0) (From m place offset a).0

free_goes : (n m place offset : ℕ) (begun : Option (ℕ × List ℕ)) (a b : List ℕ) (p : Piece) → here place offset (drop place b) ≡ Goes p → length (drop place a) ≤ m → IsOpen (From m place offset a).1
    → Later n (p.place + 7 + length p.part) (start offset + 7 + length p.part) a b
    → Each (IsAlikeAt a b) (met begun (p ∷ (From n (p.place + 7 + length p.part) (start offset + 7 + length p.part) b).0))
    → Begins (met begun (p ∷ (From n (p.place + 7 + length p.part) (start offset + 7 + length p.part) b).0)) (From m place offset a).0
unfolding met
free_goes n m place offset begun a b p h short may later each = go (taken begun p) each
  where
    go : (t : Taken) → Each (IsAlikeAt a b) (met_by t p (met None (From n (p.place + 7 + length p.part) (start offset + 7 + length p.part) b).0) (λ (r : ℕ × List ℕ). met (Some r) (From n (p.place + 7 + length p.part) (start offset + 7 + length p.part) b).0))
        → Begins (met_by t p (met None (From n (p.place + 7 + length p.part) (start offset + 7 + length p.part) b).0) (λ (r : ℕ × List ℕ). met (Some r) (From n (p.place + 7 + length p.part) (start offset + 7 + length p.part) b).0)) (From m place offset a).0
    go (Ends made) each =
        let more = free_more m place offset a b p h short may each.0 in
        begins_cons p _ _ _ _ more.2 (later more.0 None more.1 (subst (λ (r : List Piece × Ending). IsOpen r.1) more.2 may) each.1)
    go (Adds made) each =
        let more = free_more m place offset a b p h short may each.0 in
        begins_cons p _ _ _ _ more.2 (later more.0 (Some made) more.1 (subst (λ (r : List Piece × Ending). IsOpen r.1) more.2 may) each.1)
    go Wrong each = record { rest = (From m place offset a).0; is = refl }

nothing_met : (begun : Option (ℕ × List ℕ)) (ps : List Piece) (e : Ending) (all : List Piece × Ending) (whole : List Piece) → all ≡ ([], e) → Begins (met begun all.0) whole
unfolding met
nothing_met begun ps e all whole is = rw is (record { rest = whole; is = refl })

by_here : (n m place offset : ℕ) (begun : Option (ℕ × List ℕ)) (a b : List ℕ) → length (drop place a) ≤ m → IsOpen (From m place offset a).1 → Each (IsAlikeAt a b) (met begun (From (suc n) place offset b).0)
    → ((place offset : ℕ) → Later n place offset a b) → (h : Here) → here place offset (drop place b) ≡ h → Begins (met begun (From (suc n) place offset b).0) (From m place offset a).0
by_here n m place offset begun a b short may each later (Stops e) h = nothing_met begun [] e (From (suc n) place offset b) _ (pieces_stop n place offset (drop place b) e h)
by_here n m place offset begun a b short may each later (Goes p) h =
    let is = from_goes n place offset p b (here_fits place offset (drop place b) p h).is_at h in
    subst (λ (r : List Piece × Ending). Begins (met begun r.0) (From m place offset a).0) (sym is)
    (free_goes n m place offset begun a b p h short may (later (p.place + 7 + length p.part) (start offset + 7 + length p.part)) (subst (λ (r : List Piece × Ending). Each (IsAlikeAt a b) (met begun r.0)) is each))

free_pieces : (n place offset : ℕ) (a b : List ℕ) → Later n place offset a b
free_pieces zero place offset a b m begun short may each = nothing_met begun [] End (From zero place offset b) _ (unfold pieces in refl)
free_pieces (suc n) place offset a b m begun short may each = by_here n m place offset begun a b short may each (λ (place offset : ℕ). free_pieces n place offset a b) (here place offset (drop place b)) refl

extends_begins : (short long : List (ℕ × List ℕ) × Ending) → Extends short long → Begins short.0 long.0
extends_begins short long (inl same) = record { rest = []; is = ap (λ (r : List (ℕ × List ℕ) × Ending). r.0) same ∙ sym (append-nil short.0) }
extends_begins short long (inr more) = more.1

map_begins : (short long : List (ℕ × List ℕ)) → Begins short long → Begins (map (λ (r : ℕ × List ℕ). r.1) short) (map (λ (r : ℕ × List ℕ). r.1) long)
map_begins short long b = record { rest = map (λ (r : ℕ × List ℕ). r.1) b.rest; is = ap (λ (l : List (ℕ × List ℕ)). map (λ (r : ℕ × List ℕ). r.1) l) b.is ∙ map-append (λ (r : ℕ × List ℕ). r.1) short b.rest }

pub free_front : (written text : List ℕ) → end_of written ≡ End → IsFreeOfChance written text → Begins (front text) (front written)
unfolding records_of
free_front written text e free =
    let ends = joined_end (pieces (length written) 0 0 written).0 None (pieces (length written) 0 0 written).1 e in
    let b = free_pieces (length text) 0 0 written text (length written) None (omega arith) (rw ends tt) free in
    let two = extends_begins _ _ (joined_extends (met None (pieces (length text) 0 0 text).0) b.rest None End (pieces (length written) 0 0 written).1 tt) in
    let all : joined None (met None (pieces (length text) 0 0 text).0 ++ b.rest) (pieces (length written) 0 0 written).1 ≡ joined None (pieces (length written) 0 0 written).0 (pieces (length written) 0 0 written).1 = ap (λ (l : List Piece). joined None l (pieces (length written) 0 0 written).1) (sym b.is) in
    map_begins _ _ (subst (λ (l : List (ℕ × List ℕ)). Begins l (joined None (pieces (length written) 0 0 written).0 (pieces (length written) 0 0 written).1).0) (sym (joined_met (pieces (length text) 0 0 text).0 None (pieces (length text) 0 0 text).1))
    (subst (λ (r : List (ℕ × List ℕ) × Ending). Begins (joined None (met None (pieces (length text) 0 0 text).0) End).0 r.0) all two))

-- between what was synced and what was appended
pub free_log : (records : List (List ℕ)) (text : List ℕ) → IsFreeOfChance (log_text records) text → Begins (front text) records
free_log records text free =
    let b = free_front (log_text records) text (front_log records).1 free in
    record { rest = b.rest; is = sym (front_log records).0 ∙ b.is }
