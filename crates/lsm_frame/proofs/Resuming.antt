-- Reading goes on where it stopped.
use Rattle.std.proofs.Common.{◌≡◌, ◌⊎◌, inl, inr, ℕ, ◌+◌, ◌*◌, ◌≤◌, zero, suc, true, List, [], ◌∷◌, ◌++◌, length, drop, refl, ap, sym, ◌∙◌, arith}
use Rattle.std.proofs.lemmas.List.{length-append, length-drop, drop-append-le}
use Rattle.std.proofs.lemmas.Bool.{cases_lt}
use Rattle.std.proofs.lemmas.Bool.Decides.{nat_tests}
use Rattle.lsm_frame.specs.Frames.{filling, start}
use Rattle.lsm_frame.specs.Records.{Ending, Piece, Here, here, ahead, pieces}
use Rattle.lsm_frame.specs.Growth.{IsOpen}
use Rattle.lsm_frame.specs.declared.ending.Ending.TheVariants.{End, Torn, Damaged, Malformed}
use Rattle.lsm_frame.specs.Records.Here.{Stops, Goes}
use Rattle.lsm_frame.proofs.Here.{Stays, here_stays, here_fits, here_none, here_ended, zeros}

-- the pieces behind a piece
abbrev pub behind : ℕ → ℕ → List ℕ → Piece → List Piece × Ending
behind n offset text p = pieces n (p.place + 7 + length p.part) (start offset + 7 + length p.part) (drop (filling offset + 7 + length p.part) text)

pub pieces_stop : (n place offset : ℕ) (t : List ℕ) (e : Ending) → here place offset t ≡ Stops e → pieces (suc n) place offset t ≡ ([], e)
unfolding pieces
pieces_stop n place offset t e h = ap (λ (s : Here). ahead s (λ (p : Piece). behind n offset t p)) h

pub pieces_go : (n place offset : ℕ) (t : List ℕ) (p : Piece) → here place offset t ≡ Goes p → pieces (suc n) place offset t ≡ (p ∷ (behind n offset t p).0, (behind n offset t p).1)
unfolding pieces
pieces_go n place offset t p h = ap (λ (s : Here). ahead s (λ (p : Piece). behind n offset t p)) h

pub pieces_empty : (n place offset : ℕ) (t : List ℕ) → length t ≡ 0 → pieces n place offset t ≡ ([], End)
pieces_empty zero place offset t e = zero_is place offset t
  where
    zero_is : (place offset : ℕ) (t : List ℕ) → pieces zero place offset t ≡ ([], End)
    zero_is place offset t = unfold pieces in refl
pieces_empty (suc n) place offset t e = pieces_stop n place offset t End (here_none place offset t e)

-- where and how reading goes on behind the whole pieces of t, when u follows
pub record Resumes (n m place offset : ℕ) (t u : List ℕ) : Type 0 where
  pub spot : ℕ
  pub within : ℕ
  pub fuel : ℕ
  pub rest : List ℕ
  pub blocks : ℕ
  pub may : IsOpen (pieces n place offset t).1
  pub enough : length (rest ++ u) ≤ fuel
  pub same : pieces m place offset (t ++ u) ≡ ((pieces n place offset t).0 ++ (pieces fuel spot within (rest ++ u)).0, (pieces fuel spot within (rest ++ u)).1)
  pub lies : spot + length rest ≡ place + length t
  pub moves : spot + offset ≡ place + within + 32768 * blocks
  pub inside : within ≤ 32768
  pub clean : (pieces n place offset t).1 ≡ End → (zeros rest ≡ true) × (length rest ≤ filling within)

-- how far a filling leads
fill_moves : (offset : ℕ) → offset ≤ 32768 → (k : ℕ) × (filling offset + offset ≡ start offset + 32768 * k)
fill_moves offset h = elim (cases_lt 32761 offset) [
  | inl over ↦ (1, grind (arith, nat_tests))
  | inr under ↦ (0, grind (arith, nat_tests))
]

pub no_pieces : (n place offset : ℕ) (t : List ℕ) (e : Ending) → length t ≤ n → here place offset t ≡ Stops e → pieces n place offset t ≡ ([], e)
no_pieces zero place offset t e short h = let s = here_none place offset t (omega arith) in let same : Stops End ≡ Stops e = sym s ∙ h in let is : End ≡ e = cc in pieces_empty zero place offset t (omega arith) ∙ ap (λ (x : Ending). (let none : List Piece = [] in (none, x))) is
no_pieces (suc n) place offset t e short h = pieces_stop n place offset t e h

abbrev Goes_on : (n m place offset : ℕ) → List ℕ → List ℕ → Type 0
Goes_on n m place offset t u = ((IsOpen (pieces n place offset t).1 → ⊥) × (pieces m place offset (t ++ u) ≡ pieces n place offset t)) ⊎ Resumes n m place offset t u

stop_open : (n m place offset : ℕ) (t u : List ℕ) (e : Ending) → IsOpen e → length t ≤ n → length (t ++ u) ≤ m → offset ≤ 32768 → here place offset t ≡ Stops e → Resumes n m place offset t u
stop_open n m place offset t u e may short long inside h =
    let none : pieces n place offset t ≡ ([], e) = no_pieces n place offset t e short h in
    record {
      spot = place;
      within = offset;
      fuel = m;
      rest = t;
      blocks = 0;
      may = rw none may;
      enough = long;
      same = rw none refl;
      lies = refl;
      moves = omega arith;
      inside = inside;
      clean = λ (is : (pieces n place offset t).1 ≡ End). here_ended place offset t (h ∙ ap (λ (x : Ending). Stops x) (sym (ap (λ (r : List Piece × Ending). r.1) none) ∙ is));
    }

stop_shut : (n m place offset : ℕ) (t u : List ℕ) (e : Ending) → (IsOpen e → ⊥) → length t ≤ n → length (t ++ u) ≤ m → here place offset t ≡ Stops e → Stays (here place offset t) (here place offset (t ++ u)) → Goes_on n m place offset t u
stop_shut n m place offset t u e shut short long h (inl same) =
    let none : pieces n place offset t ≡ ([], e) = no_pieces n place offset t e short h in
    inl (rw none shut, no_pieces m place offset (t ++ u) e long (same ∙ h) ∙ sym none)
stop_shut n m place offset t u e shut short long h (inr more) =
    let both : Stops more.0 ≡ Stops e = sym more.1 ∙ h in
    let is : more.0 ≡ e = cc in
    absurd (shut (rw is at more.2))

at_stop : (n m place offset : ℕ) (t u : List ℕ) (e : Ending) → length t ≤ n → length (t ++ u) ≤ m → offset ≤ 32768 → here place offset t ≡ Stops e → Stays (here place offset t) (here place offset (t ++ u)) → Goes_on n m place offset t u
at_stop n m place offset t u End short long inside h s = inr (stop_open n m place offset t u End tt short long inside h)
at_stop n m place offset t u (Torn at) short long inside h s = inr (stop_open n m place offset t u (Torn at) tt short long inside h)
at_stop n m place offset t u (Damaged at kept found) short long inside h s = stop_shut n m place offset t u (Damaged at kept found) (λ f. f) short long h s
at_stop n m place offset t u (Malformed at) short long inside h s = stop_shut n m place offset t u (Malformed at) (λ f. f) short long h s

with_piece : (n m place offset : ℕ) (t u : List ℕ) (p : Piece) → offset ≤ 32768 → here place offset t ≡ Goes p → here place offset (t ++ u) ≡ Goes p → filling offset + 7 + length p.part ≤ length t → p.place ≡ place + filling offset
    → Goes_on n m (p.place + 7 + length p.part) (start offset + 7 + length p.part) (drop (filling offset + 7 + length p.part) t) u
    → Goes_on (suc n) (suc m) place offset t u
with_piece n m place offset t u p inside h g whole is_at (inl same) = inl (rw (ap (λ (r : List Piece × Ending). r.1) (pieces_go n place offset t p h)) same.0, pieces_go m place offset (t ++ u) p g ∙ ap (λ (r : List Piece × Ending). (p ∷ r.0, r.1)) (ap (λ (l : List ℕ). pieces m (p.place + 7 + length p.part) (start offset + 7 + length p.part) l) (drop-append-le (filling offset + 7 + length p.part) t u whole) ∙ same.1) ∙ sym (pieces_go n place offset t p h))
with_piece n m place offset t u p inside h g whole is_at (inr was) =
    let here_is = pieces_go n place offset t p h in
    let ends : (pieces (suc n) place offset t).1 ≡ (behind n offset t p).1 = ap (λ (r : List Piece × Ending). r.1) here_is in
    let k = fill_moves offset inside in
    inr (record {
      spot = was.spot;
      within = was.within;
      fuel = was.fuel;
      rest = was.rest;
      blocks = k.0 + was.blocks;
      may = rw ends was.may;
      enough = was.enough;
      same = rw here_is (pieces_go m place offset (t ++ u) p g ∙ ap (λ (r : List Piece × Ending). (p ∷ r.0, r.1)) (ap (λ (l : List ℕ). pieces m (p.place + 7 + length p.part) (start offset + 7 + length p.part) l) (drop-append-le (filling offset + 7 + length p.part) t u whole) ∙ was.same));
      lies = omega (arith, was.lies, length-drop (filling offset + 7 + length p.part) t);
      moves = omega (arith, was.moves, k.1);
      inside = was.inside;
      clean = λ (is : (pieces (suc n) place offset t).1 ≡ End). was.clean (sym ends ∙ is);
    })

abbrev Below : ℕ → List ℕ → Type 0
Below n u = (m place offset : ℕ) (t : List ℕ) → length t ≤ n → length (t ++ u) ≤ m → offset ≤ 32768 → Goes_on n m place offset t u

on_piece : (n m place offset : ℕ) (t u : List ℕ) (p : Piece) → Below n u → length t ≤ suc n → length (t ++ u) ≤ m → offset ≤ 32768 → here place offset t ≡ Goes p → Stays (here place offset t) (here place offset (t ++ u)) → Goes_on (suc n) m place offset t u
on_piece n m place offset t u p below short long inside h (inr more) = let s = more.1 in absurd (cc)
on_piece n zero place offset t u p below short long inside h (inl same) = let fits = here_fits place offset t p h in absurd (omega (arith, fits.whole, length-drop (filling offset) t, length-append t u))
on_piece n (suc m) place offset t u p below short long inside h (inl same) =
    let fits = here_fits place offset t p h in
    let whole : filling offset + 7 + length p.part ≤ length t = omega (arith, fits.whole, length-drop (filling offset) t) in
    let left = length-drop (filling offset + 7 + length p.part) t in
    with_piece n m place offset t u p inside h (same ∙ h) whole fits.is_at
    (below m (p.place + 7 + length p.part) (start offset + 7 + length p.part) (drop (filling offset + 7 + length p.part) t) (omega (arith, left)) (rw length-append (omega (arith, left, length-append t u))) fits.fits)

on_here : (n m place offset : ℕ) (t u : List ℕ) → Below n u → length t ≤ suc n → length (t ++ u) ≤ m → offset ≤ 32768 → (h : Here) → here place offset t ≡ h → Goes_on (suc n) m place offset t u
on_here n m place offset t u below short long inside (Stops e) h = at_stop (suc n) m place offset t u e short long inside h (here_stays place offset t u)
on_here n m place offset t u below short long inside (Goes p) h = on_piece n m place offset t u p below short long inside h (here_stays place offset t u)

pub resume : (n m place offset : ℕ) (t u : List ℕ) → length t ≤ n → length (t ++ u) ≤ m → offset ≤ 32768 → ((IsOpen (pieces n place offset t).1 → ⊥) × (pieces m place offset (t ++ u) ≡ pieces n place offset t)) ⊎ Resumes n m place offset t u
resume zero m place offset t u short long inside = at_stop zero m place offset t u End short long inside (here_none place offset t (omega arith)) (here_stays place offset t u)
resume (suc n) m place offset t u short long inside = on_here n m place offset t u (λ (m place offset : ℕ) (t : List ℕ). resume n m place offset t u) short long inside (here place offset t) refl
