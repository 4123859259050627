-- How a text is cut at a byte, and what it begins with.
use Rattle.std.proofs.Common.{◌≡◌, ℕ, ◌+◌, ◌-◌, ◌<◌, ◌≤◌, List, [], ◌∷◌, ◌++◌, length, Bool, true, false, refl, ap, sym, ◌∙◌, arith, take, drop, Option, Some, None, suc}
use Rattle.std.specs.Prelude.{not, ◌==◌, if◌then◌else◌}
use Rattle.std.specs.List.{list_all, position_or_len}
use Rattle.std.proofs.lemmas.Bool.Decides.{nat_tests}
use Rattle.std.proofs.lemmas.Slice.Eq.{bytes_eq-Decides}
use Rattle.std.proofs.lemmas.List.{take_rest, take-append-drop}
use Rattle.std.proofs.Math.Seq.{take-append_seam, drop-append_seam}
use lib.Dec.{ltb}
use mathlib.Core.Bool.{cond}
use Rattle.bk_meta.specs.Lines.{cut_at, put_first, begins}
use Rattle.std.proofs.lemmas.Bool.{and_parts}

-- ---- cutting

abbrev cut_by : Bool → ℕ → List ℕ → Option (List ℕ × List ℕ) → Option (List ℕ × List ℕ)
cut_by is byte text rest = if is then Some ([], text) else put_first byte rest

abbrev place_by : Bool → ℕ → ℕ
place_by is place = cond (not is) (1 + place) 0

found_step : (is : Bool) (byte place at : ℕ) (text : List ℕ) (rest : Option (List ℕ × List ℕ)) → (place < length text → rest ≡ Some (take place text, drop (place + 1) text)) → place_by is place ≡ at → at < suc (length text) →
    cut_by is byte text rest ≡ Some (take at (byte ∷ text), drop (at + 1) (byte ∷ text))
found_step true byte place at text rest later here within = rw (← here) refl
found_step false byte place at text rest later here within =
    let inner : place < length text = omega arith in
    let this : at ≡ suc place = omega arith in
    let next : suc place + 1 ≡ suc (place + 1) = omega arith in
    ap (put_first byte) (later inner) ∙ rw (this, next) refl

lost_step : (is : Bool) (byte place : ℕ) (text : List ℕ) (rest : Option (List ℕ × List ℕ)) → (length text ≤ place → rest ≡ None) → suc (length text) ≤ place_by is place →
    cut_by is byte text rest ≡ None
lost_step true byte place text rest later beyond = absurd (omega arith)
lost_step false byte place text rest later beyond =
    let inner : length text ≤ place = omega arith in
    ap (put_first byte) (later inner)

pub cut_there : (mark : ℕ) (text : List ℕ) (at : ℕ) → position_or_len (λ byte. byte == mark) text ≡ at → at < length text → cut_at mark text ≡ Some (take at text, drop (at + 1) text)
unfolding cut_at
cut_there mark [] at here within = absurd (omega arith)
cut_there mark (byte ∷ text) at here within =
    found_step (byte == mark) byte (position_or_len (λ b. b == mark) text) at text (cut_at mark text)
    (λ inner. cut_there mark text (position_or_len (λ b. b == mark) text) refl inner) here within

pub cut_nowhere : (mark : ℕ) (text : List ℕ) → length text ≤ position_or_len (λ byte. byte == mark) text → cut_at mark text ≡ None
unfolding cut_at
cut_nowhere mark [] beyond = refl
cut_nowhere mark (byte ∷ text) beyond =
    lost_step (byte == mark) byte (position_or_len (λ b. b == mark) text) text (cut_at mark text) (cut_nowhere mark text) beyond

-- by what `position` answers
chosen_some : (place count at : ℕ) (r : Option ℕ) → r ≡ cond (ltb place count) (Some place) None → r ≡ Some at → (place ≡ at) × (at < count)
chosen_some place count at r answers is = grind (arith, nat_tests)

chosen_none : (place count : ℕ) (r : Option ℕ) → r ≡ cond (ltb place count) (Some place) None → r ≡ None → count ≤ place
chosen_none place count r answers is = grind (arith, nat_tests)

pub cut_found : (mark : ℕ) (text : List ℕ) (r : Option ℕ) (at : ℕ) →
    r ≡ cond (ltb (position_or_len (λ byte. byte == mark) text) (length text)) (Some (position_or_len (λ byte. byte == mark) text)) None → r ≡ Some at →
    Some (take at text, take (length text - (at + 1)) (drop (at + 1) text)) ≡ cut_at mark text
cut_found mark text r at answers is =
    let place = chosen_some (position_or_len (λ byte. byte == mark) text) (length text) at r answers is in
    ap (λ (rest : List ℕ). Some (take at text, rest)) (take_rest text (at + 1)) ∙ sym (cut_there mark text at place.0 place.1)

pub cut_lost : (mark : ℕ) (text : List ℕ) (r : Option ℕ) →
    r ≡ cond (ltb (position_or_len (λ byte. byte == mark) text) (length text)) (Some (position_or_len (λ byte. byte == mark) text)) None → r ≡ None → None ≡ cut_at mark text
cut_lost mark text r answers is = sym (cut_nowhere mark text (chosen_none (position_or_len (λ byte. byte == mark) text) (length text) r answers is))

-- a text that has no such byte, and then the byte
pub cut_whole : (mark : ℕ) (front back : List ℕ) → list_all (λ byte. not (byte == mark)) front ≡ true → cut_at mark (front ++ mark ∷ back) ≡ Some (front, back)
unfolding cut_at
cut_whole mark [] back none = let same : mark == mark ≡ true = grind (arith, nat_tests) in rw same
cut_whole mark (byte ∷ front) back none =
    let cut = and_parts (not (byte == mark)) (list_all (λ b. not (b == mark)) front) none in
    let other : byte == mark ≡ false = grind (arith, nat_tests) in
    rw (other, cut_whole mark front back cut.1)

joins_step : (is : Bool) (mark byte : ℕ) (text : List ℕ) (rest : Option (List ℕ × List ℕ)) (parts : List ℕ × List ℕ) → byte == mark ≡ is → ((inner : List ℕ × List ℕ) → rest ≡ Some inner → text ≡ inner.0 ++ mark ∷ inner.1) →
    cut_by is byte text rest ≡ Some parts → byte ∷ text ≡ parts.0 ++ mark ∷ parts.1
joins_step true mark byte text rest parts same later is =
    let equal : byte ≡ mark = grind (arith, nat_tests) in
    let here : ([], text) ≡ parts = cc in
    rw (← here, equal)
joins_step false mark byte text None parts same later is = absurd (cc)
joins_step false mark byte text (Some inner) parts same later is =
    let here : (byte ∷ inner.0, inner.1) ≡ parts = cc in
    rw (← here) (ap (λ (t : List ℕ). byte ∷ t) (later inner refl))

-- the parts and the byte between them are the text
pub cut_joins : (mark : ℕ) (text : List ℕ) (parts : List ℕ × List ℕ) → cut_at mark text ≡ Some parts → text ≡ parts.0 ++ mark ∷ parts.1
unfolding cut_at
cut_joins mark [] parts is = absurd (cc)
cut_joins mark (byte ∷ text) parts is = joins_step (byte == mark) mark byte text (cut_at mark text) parts refl (cut_joins mark text) is

-- ---- beginnings

pub begins_with : (front back : List ℕ) → begins front (front ++ back) ≡ true
begins_with front back = (bytes_eq-Decides (take (length front) (front ++ back)) front).1 (take-append_seam front back)

pub begun_by : (front text : List ℕ) → begins front text ≡ true → text ≡ front ++ drop (length front) text
begun_by front text is =
    sym (take-append-drop (length front) text) ∙ ap (λ (t : List ℕ). t ++ drop (length front) text) ((bytes_eq-Decides (take (length front) text) front).0 is)

pub behind_front : (front back : List ℕ) → drop (length front) (front ++ back) ≡ back
behind_front front back = drop-append_seam front back
