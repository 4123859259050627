-- What stands at a place, case by case, and with more text behind it.
use Rattle.std.proofs.Common.{◌≡◌, ◌⊎◌, inl, inr, ℕ, ◌+◌, ◌<◌, ◌≤◌, List, [], ◌∷◌, ◌++◌, length, take, drop, refl, ap, sym, ◌∙◌, arith, ◌==◌, ◌&&◌, ◌-◌, Bool, true, false, zero, suc, if◌then◌else◌}
use Rattle.std.proofs.lemmas.List.{length-append, length-drop, take-append-le, drop-append-le, get_or_append_left, length-take-le, take-append-drop, take_all, nil_from_length}
use Rattle.std.proofs.Math.Seq.{take-append-add}
use Rattle.std.proofs.lemmas.List.Folds.{list_all-append}
use Rattle.std.specs.List.{list_all}
use Rattle.lsm_frame.specs.Frames.{filling, start}
use Rattle.std.proofs.lemmas.Bool.{cases_lt}
use Rattle.std.proofs.lemmas.Bool.Decides.{nat_tests}
use Rattle.std.specs.Int.{w16, w32, from_le_bytes}
use Rattle.lsm_bytes.specs.Checksum.{crc32c, masked}
use Rattle.lsm_frame.specs.Records.{Ending, Piece, Here, piece_at, here, kept, size, kind, part, found}
use Rattle.lsm_frame.specs.Growth.{IsOpen}
use Rattle.lsm_frame.specs.declared.ending.Ending.TheVariants.{End, Torn, Damaged, Malformed}
use Rattle.lsm_frame.specs.Records.Here.{Stops, Goes}

pub piece_none : (place offset : ℕ) (t : List ℕ) → length t ≡ 0 → piece_at place offset t ≡ Stops End
unfolding piece_at
piece_none place offset t e = grind (arith, nat_tests)

pub piece_short : (place offset : ℕ) (t : List ℕ) → 0 < length t → length t < 7 → piece_at place offset t ≡ Stops (Torn place)
unfolding piece_at
piece_short place offset t some short = grind (arith, nat_tests)

pub piece_past : (place offset : ℕ) (t : List ℕ) → 7 ≤ length t → 32768 < offset + 7 + size t → piece_at place offset t ≡ Stops (Malformed place)
unfolding piece_at
piece_past place offset t long past = grind (arith, nat_tests)

pub piece_torn : (place offset : ℕ) (t : List ℕ) → 7 ≤ length t → offset + 7 + size t ≤ 32768 → length t < 7 + size t → piece_at place offset t ≡ Stops (Torn place)
unfolding piece_at
piece_torn place offset t long fits torn = grind (arith, nat_tests)

-- what a whole piece is
abbrev pub judged : ℕ → List ℕ → Here
judged place t = if kept t == found t then Goes (record { place = place; kind = kind t; part = part t }) else Stops (Damaged place (kept t) (found t))

pub piece_whole : (place offset : ℕ) (t : List ℕ) → 7 + size t ≤ length t → offset + 7 + size t ≤ 32768 → piece_at place offset t ≡ judged place t
unfolding piece_at
piece_whole place offset t whole fits = grind (arith, nat_tests)

pub same_kept : (t u : List ℕ) → 7 ≤ length t → kept (t ++ u) ≡ kept t
same_kept t u long = ap (λ (l : List ℕ). from_le_bytes w32 l) (take-append-le 4 t u (omega arith))

pub same_size : (t u : List ℕ) → 7 ≤ length t → size (t ++ u) ≡ size t
same_size t u long = ap (λ (l : List ℕ). from_le_bytes w16 l) (ap (λ (l : List ℕ). take 2 l) (drop-append-le 4 t u (omega arith)) ∙ take-append-le 2 (drop 4 t) u (omega (arith, length-drop 4 t)))

pub same_kind : (t u : List ℕ) → 7 ≤ length t → kind (t ++ u) ≡ kind t
same_kind t u long = get_or_append_left t u 0 6 (omega arith)

pub same_part : (t u : List ℕ) → 7 + size t ≤ length t → part (t ++ u) ≡ part t
same_part t u whole = ap (λ (n : ℕ). take n (drop 7 (t ++ u))) (same_size t u (omega arith)) ∙ ap (λ (l : List ℕ). take (size t) l) (drop-append-le 7 t u (omega arith)) ∙ take-append-le (size t) (drop 7 t) u (omega (arith, length-drop 7 t))

pub same_found : (t u : List ℕ) → 7 + size t ≤ length t → found (t ++ u) ≡ found t
same_found t u whole = ap (λ (k : ℕ). masked (crc32c (k ∷ part (t ++ u)))) (same_kind t u (omega arith)) ∙ ap (λ (p : List ℕ). masked (crc32c (kind t ∷ p))) (same_part t u whole)

pub same_judged : (place : ℕ) (t u : List ℕ) → 7 + size t ≤ length t → judged place (t ++ u) ≡ judged place t
same_judged place t u whole = rw (same_kept t u (omega arith), same_found t u whole, same_kind t u (omega arith), same_part t u whole) refl

-- it is the same with more text behind it, or may be
abbrev pub Stays : Here → Here → Type 0
Stays short long = (long ≡ short) ⊎ ((e : Ending) × (short ≡ Stops e) × IsOpen e)

pub piece_stays : (place offset : ℕ) (t u : List ℕ) → Stays (piece_at place offset t) (piece_at place offset (t ++ u))
piece_stays place offset t u = elim (cases_lt 0 (length t)) [
  | inr none ↦ inr (End, piece_none place offset t (omega arith), tt)
  | inl some ↦ elim (cases_lt (length t) 7) [
    | inl short ↦ inr (Torn place, piece_short place offset t some short, tt)
    | inr long ↦ elim (cases_lt 32768 (offset + 7 + size t)) [
      | inl past ↦ inl (piece_past place offset (t ++ u) (omega (arith, length-append t u)) (rw (same_size t u long) past) ∙ sym (piece_past place offset t long past))
      | inr fits ↦ elim (cases_lt (length t) (7 + size t)) [
        | inl torn ↦ inr (Torn place, piece_torn place offset t long fits torn, tt)
        | inr whole ↦ inl (piece_whole place offset (t ++ u) (rw (same_size t u long) (omega (arith, length-append t u))) (rw (same_size t u long) fits) ∙ same_judged place t u whole ∙ sym (piece_whole place offset t whole fits))
      ]
    ]
  ]
]

-- a piece that stands at a place
pub record Fits (place offset : ℕ) (t : List ℕ) (p : Piece) : Type 0 where
  pub is_at : p.place ≡ place
  pub whole : 7 + length p.part ≤ length t
  pub fits : offset + 7 + length p.part ≤ 32768
  pub sized : length p.part ≡ size t

pub judged_goes : (b : Bool) (q p : Piece) (d : Ending) → (if b then Goes q else Stops d) ≡ Goes p → q ≡ p
judged_goes true q p d e = cc
judged_goes false q p d e = absurd (cc)

judged_ends : (b : Bool) (q : Piece) (place kept found : ℕ) → (if b then Goes q else Stops (Damaged place kept found)) ≡ Stops End → ⊥
judged_ends true q place kept found e = cc
judged_ends false q place kept found e = cc

fits_whole : (place offset : ℕ) (t : List ℕ) (p : Piece) → 7 + size t ≤ length t → offset + 7 + size t ≤ 32768 → judged place t ≡ Goes p → Fits place offset t p
fits_whole place offset t p whole fits e =
    let same = judged_goes (kept t == found t) (record { place = place; kind = kind t; part = part t }) p (Damaged place (kept t) (found t)) e in
    let at : place ≡ p.place = ap (λ (q : Piece). q.place) same in
    let parts : part t ≡ p.part = ap (λ (q : Piece). q.part) same in
    let long : length p.part ≡ size t = ap (λ (l : List ℕ). length l) (sym parts) ∙ length-take-le (size t) (drop 7 t) (omega (arith, length-drop 7 t)) in
    record { is_at = sym at; whole = rw long whole; fits = rw long fits; sized = long }

pub piece_fits : (place offset : ℕ) (t : List ℕ) (p : Piece) → piece_at place offset t ≡ Goes p → Fits place offset t p
piece_fits place offset t p e = elim (cases_lt 0 (length t)) [
  | inr none ↦ let s = piece_none place offset t (omega arith) in absurd (cc)
  | inl some ↦ elim (cases_lt (length t) 7) [
    | inl short ↦ let s = piece_short place offset t some short in absurd (cc)
    | inr long ↦ elim (cases_lt 32768 (offset + 7 + size t)) [
      | inl past ↦ let s = piece_past place offset t long past in absurd (cc)
      | inr fits ↦ elim (cases_lt (length t) (7 + size t)) [
        | inl torn ↦ let s = piece_torn place offset t long fits torn in absurd (cc)
        | inr whole ↦ fits_whole place offset t p whole fits (sym (piece_whole place offset t whole fits) ∙ e)
      ]
    ]
  ]
]

pub piece_ended : (place offset : ℕ) (t : List ℕ) → piece_at place offset t ≡ Stops End → length t ≡ 0
piece_ended place offset t e = elim (cases_lt 0 (length t)) [
  | inr none ↦ omega arith
  | inl some ↦ elim (cases_lt (length t) 7) [
    | inl short ↦ let s = piece_short place offset t some short in absurd (cc)
    | inr long ↦ elim (cases_lt 32768 (offset + 7 + size t)) [
      | inl past ↦ let s = piece_past place offset t long past in absurd (cc)
      | inr fits ↦ elim (cases_lt (length t) (7 + size t)) [
        | inl torn ↦ let s = piece_torn place offset t long fits torn in absurd (cc)
        | inr whole ↦ absurd (judged_ends (kept t == found t) _ _ _ _ (sym (piece_whole place offset t whole fits) ∙ e))
      ]
    ]
  ]
]

-- the filling
abbrev pub zeros : List ℕ → Bool
zeros text = list_all (λ (b : ℕ). b == 0) text

pub here_zeros : (place offset : ℕ) (t : List ℕ) → zeros (take (filling offset) t) ≡ true → here place offset t ≡ piece_at (place + filling offset) (start offset) (drop (filling offset) t)
unfolding here
here_zeros place offset t e = ap (λ (b : Bool). if b then piece_at (place + filling offset) (start offset) (drop (filling offset) t) else Stops (Malformed place)) e

pub here_filled : (place offset : ℕ) (t : List ℕ) → zeros (take (filling offset) t) ≡ false → here place offset t ≡ Stops (Malformed place)
unfolding here
here_filled place offset t e = ap (λ (b : Bool). if b then piece_at (place + filling offset) (start offset) (drop (filling offset) t) else Stops (Malformed place)) e

zeros_within : (f : ℕ) (t u : List ℕ) → length t ≤ f → zeros (take f t) ≡ false → zeros (take f (t ++ u)) ≡ false
zeros_within f t u short e =
    let front : take f t ≡ t = take_all f t short in
    let cut : take f (t ++ u) ≡ t ++ take (f - length t) u = ap (λ (n : ℕ). take n (t ++ u)) (omega arith) ∙ take-append-add t u (f - length t) in
    let bad : zeros t ≡ false = ap (λ (l : List ℕ). zeros l) (sym front) ∙ e in
    ap (λ (l : List ℕ). zeros l) cut ∙ list_all-append (λ (b : ℕ). b == 0) t (take (f - length t) u) ∙ ap (λ (b : Bool). b && zeros (take (f - length t) u)) bad

stays_at : (f place offset : ℕ) (t u : List ℕ) → length t ≤ f → (piece_at place offset (drop f t) ≡ Stops End)
stays_at f place offset t u short = piece_none place offset (drop f t) (omega (arith, length-drop f t))

pub here_stays : (place offset : ℕ) (t u : List ℕ) → Stays (here place offset t) (here place offset (t ++ u))
here_stays place offset t u = go (zeros (take (filling offset) t)) refl (cases_lt (length t) (filling offset))
  where
    go : (b : Bool) → zeros (take (filling offset) t) ≡ b → (length t < filling offset) ⊎ (filling offset ≤ length t) → Stays (here place offset t) (here place offset (t ++ u))
    go true e (inl short) = inr (End, here_zeros place offset t e ∙ stays_at (filling offset) (place + filling offset) (start offset) t u (omega arith), tt)
    go false e (inl short) = inl (here_filled place offset (t ++ u) (zeros_within (filling offset) t u (omega arith) e) ∙ sym (here_filled place offset t e))
    go false e (inr long) = inl (here_filled place offset (t ++ u) (ap (λ (l : List ℕ). zeros l) (take-append-le (filling offset) t u long) ∙ e) ∙ sym (here_filled place offset t e))
    go true e (inr long) = rw (here_zeros place offset t e, here_zeros place offset (t ++ u) (ap (λ (l : List ℕ). zeros l) (take-append-le (filling offset) t u long) ∙ e), drop-append-le (filling offset) t u long)
        (piece_stays (place + filling offset) (start offset) (drop (filling offset) t) u)

pub here_none : (place offset : ℕ) (t : List ℕ) → length t ≡ 0 → here place offset t ≡ Stops End
here_none place offset t e = here_zeros place offset t (ap (λ (l : List ℕ). zeros (take (filling offset) l)) (nil_from_length t e) ∙ none (filling offset)) ∙ piece_none _ _ _ (omega (arith, length-drop (filling offset) t))
  where
    none : (f : ℕ) → zeros (take f []) ≡ true
    none zero = refl
    none (suc f) = refl

pub here_fits : (place offset : ℕ) (t : List ℕ) (p : Piece) → here place offset t ≡ Goes p → Fits (place + filling offset) (start offset) (drop (filling offset) t) p
here_fits place offset t p e = go (zeros (take (filling offset) t)) refl
  where
    go : (b : Bool) → zeros (take (filling offset) t) ≡ b → Fits (place + filling offset) (start offset) (drop (filling offset) t) p
    go true z = piece_fits _ _ _ p (sym (here_zeros place offset t z) ∙ e)
    go false z = let s = here_filled place offset t z in absurd (cc)

pub here_ended : (place offset : ℕ) (t : List ℕ) → here place offset t ≡ Stops End → (zeros t ≡ true) × (length t ≤ filling offset)
here_ended place offset t e = go (zeros (take (filling offset) t)) refl
  where
    go : (b : Bool) → zeros (take (filling offset) t) ≡ b → (zeros t ≡ true) × (length t ≤ filling offset)
    go true z =
        let rest : length (drop (filling offset) t) ≡ 0 = piece_ended _ _ _ (sym (here_zeros place offset t z) ∙ e) in
        let short : length t ≤ filling offset = omega (arith, length-drop (filling offset) t) in
        (ap (λ (l : List ℕ). zeros l) (sym (take_all (filling offset) t short)) ∙ z, short)
    go false z = let s = here_filled place offset t z in absurd (cc)

-- nothing behind a piece tells what it is
piece_tight : (place offset : ℕ) (t u : List ℕ) (p : Piece) → piece_at place offset (t ++ u) ≡ Goes p → length t ≡ 7 + length p.part → piece_at place offset t ≡ Goes p
piece_tight place offset t u p e long =
    let fits = piece_fits place offset (t ++ u) p e in
    let same : size (t ++ u) ≡ size t = same_size t u (omega arith) in
    let sized : length p.part ≡ size t = fits.sized ∙ same in
    let whole : 7 + size t ≤ length t = omega arith in
    let within : offset + 7 + size t ≤ 32768 = omega (arith, fits.fits) in
    piece_whole place offset t whole within ∙ sym (same_judged place t u whole) ∙ sym (piece_whole place offset (t ++ u) (rw same (omega (arith, length-append t u))) (rw same within)) ∙ e

stays_goes : (short long : Here) (p : Piece) → Stays short long → short ≡ Goes p → long ≡ Goes p
stays_goes short long p (inl same) e = same ∙ e
stays_goes short long p (inr more) e = let s = more.1 in absurd (cc)

-- so a text with the piece's bytes has the piece
pub piece_alike : (place offset : ℕ) (a b : List ℕ) (p : Piece) → piece_at place offset b ≡ Goes p → take (7 + length p.part) a ≡ take (7 + length p.part) b → piece_at place offset a ≡ Goes p
piece_alike place offset a b p e alike =
    let fits = piece_fits place offset b p e in
    let split : take (7 + length p.part) b ++ drop (7 + length p.part) b ≡ b = take-append-drop (7 + length p.part) b in
    let tight : piece_at place offset (take (7 + length p.part) b) ≡ Goes p = piece_tight place offset (take (7 + length p.part) b) (drop (7 + length p.part) b) p (ap (λ (l : List ℕ). piece_at place offset l) split ∙ e) (length-take-le (7 + length p.part) b fits.whole) in
    let again : take (7 + length p.part) b ++ drop (7 + length p.part) a ≡ a = ap (λ (l : List ℕ). l ++ drop (7 + length p.part) a) (sym alike) ∙ take-append-drop (7 + length p.part) a in
    ap (λ (l : List ℕ). piece_at place offset l) (sym again) ∙ stays_goes _ _ p (piece_stays place offset (take (7 + length p.part) b) (drop (7 + length p.part) a)) tight

-- and where the text's end is open, it has it behind a filling too
pub here_alike : (place offset : ℕ) (a b : List ℕ) (p : Piece) → ((e : Ending) → here place offset a ≡ Stops e → IsOpen e) → here place offset b ≡ Goes p → take (7 + length p.part) (drop (filling offset) a) ≡ take (7 + length p.part) (drop (filling offset) b) → here place offset a ≡ Goes p
here_alike place offset a b p may e alike = go (zeros (take (filling offset) a)) (zeros (take (filling offset) b)) refl refl
  where
    go : (x y : Bool) → zeros (take (filling offset) a) ≡ x → zeros (take (filling offset) b) ≡ y → here place offset a ≡ Goes p
    go x false xs ys = let s = here_filled place offset b ys in absurd (cc)
    go false true xs ys = absurd (may (Malformed place) (here_filled place offset a xs))
    go true true xs ys = here_zeros place offset a xs ∙ piece_alike (place + filling offset) (start offset) (drop (filling offset) a) (drop (filling offset) b) p (sym (here_zeros place offset b ys) ∙ e) alike

-- a text that ends inside a filling
pub here_short : (place offset : ℕ) (t : List ℕ) → length t ≤ filling offset → zeros t ≡ true → here place offset t ≡ Stops End
here_short place offset t short z = here_zeros place offset t (ap (λ (l : List ℕ). zeros l) (take_all (filling offset) t short) ∙ z) ∙ stays_at (filling offset) (place + filling offset) (start offset) t [] short
