-- The parts of a shared table's name.
use Rattle.std.proofs.Common.{◌≡◌, ℕ, ◌+◌, ◌-◌, ◌^◌, ◌<◌, ◌≤◌, List, [], ◌∷◌, ◌++◌, length, true, refl, ap, sym, ◌∙◌, take, drop, arith}
use Rattle.std.specs.Prelude.{codes, ◌==◌, not, Option, Some, None}
use Rattle.std.specs.Fmt.{decimal}
use Rattle.std.specs.Char.{is_ascii_digit}
use Rattle.std.specs.List.{list_all, position_or_len}
use Rattle.std.proofs.lemmas.Bool.Decides.{nat_tests}
use Rattle.std.proofs.lemmas.Fmt.{decimal_injective, digits_decimal, length-decimal-le}
use Rattle.std.proofs.lemmas.List.{append_assoc, append_cancel_left, append_cancel_right, length-append, take_at, take_rest}
use Rattle.std.proofs.Math.Seq.{drop-append-add}
use lib.Dec.{ltb}
use mathlib.Core.Bool.{cond}
use Rattle.lsm_names.specs.declared.shared_names.SharedName.{SharedName}
use Rattle.lsm_names.specs.Numbers.{six_digits, padded_decimal, is_file_number}
use Rattle.lsm_names.specs.Paths.{is_component_byte, is_component}
use Rattle.lsm_names.specs.SharedNames.{spelled_shared, IsSharedName}
use Rattle.lsm_names.proofs.NumberLemmas.{digit_texts}
use Rattle.lsm_names.proofs.FileNameLemmas.{six_are_digits, six_injective, digit_is_component_byte, number_is_component}
use Rattle.lsm_names.proofs.PathLemmas.{list_all-append, list_all-weaker}
use Rattle.lsm_names.proofs.SessionLemmas.{length_of_session, session_has_component_bytes, session_has_no_underscore}
use Rattle.std.proofs.lemmas.Bool.{and_parts}

-- no zeros in front
pub decimal_is_padded : (number : ℕ) → padded_decimal 0 number ≡ decimal number
unfolding padded_decimal
decimal_is_padded number = let none : 0 - length (decimal number) ≡ 0 = omega arith in rw none

-- what stands behind the number
abbrev pub origin : List ℕ → ℕ → List ℕ
origin session size = 115 ∷ (session ++ 95 ∷ (decimal size ++ codes ".sst"))

pub shared_parts : (name : SharedName) → spelled_shared name ≡ six_digits name.number ++ 95 ∷ origin name.session name.size
unfolding spelled_shared
shared_parts name = simp append_assoc

digit_is_no_underscore : (byte : ℕ) → is_ascii_digit byte ≡ true → not (byte == 95) ≡ true
digit_is_no_underscore byte h = grind (arith, nat_tests)

pub six_have_no_underscore : (number : ℕ) → is_file_number number ≡ true → list_all (λ byte. not (byte == 95)) (six_digits number) ≡ true
six_have_no_underscore number h = list_all-weaker is_ascii_digit (λ byte. not (byte == 95)) digit_is_no_underscore (six_digits number) (six_are_digits number h)

-- the first underscore
pub first_underscore : (front back : List ℕ) → list_all (λ byte. not (byte == 95)) front ≡ true → position_or_len (λ byte. byte == 95) (front ++ 95 ∷ back) ≡ length front
first_underscore [] back h = refl
first_underscore (byte ∷ front) back h =
    let cut = and_parts (not (byte == 95)) (list_all (λ byte. not (byte == 95)) front) h in
    let rest = first_underscore front back cut.1 in
    rw cut.0 (omega arith)

decimal_bytes : (size : ℕ) → size < 2 ^ 64 → list_all is_component_byte (decimal size) ≡ true
decimal_bytes size small = list_all-weaker is_ascii_digit is_component_byte digit_is_component_byte (decimal size) (digits_decimal digit_texts size small)

origin_bytes : (session : List ℕ) (size : ℕ) → list_all is_component_byte session ≡ true → size < 2 ^ 64 → list_all is_component_byte (95 ∷ origin session size) ≡ true
unfolding is_component_byte
origin_bytes session size h small =
    list_all-append is_component_byte session (95 ∷ (decimal size ++ codes ".sst")) h
    (list_all-append is_component_byte (decimal size) (codes ".sst") (decimal_bytes size small) refl)

origin_is_short : (session : List ℕ) (size : ℕ) → length session ≡ 20 → size < 2 ^ 64 → length (95 ∷ origin session size) ≤ 80
origin_is_short session size long small =
    omega (
      arith,
      length-append session (95 ∷ (decimal size ++ codes ".sst")),
      length-append (decimal size) (codes ".sst"),
      length-decimal-le 20 size (omega arith) (omega arith) small,
    )

pub shared_is_component : (name : SharedName) → IsSharedName name → is_component (spelled_shared name) ≡ true
shared_is_component name h =
    rw shared_parts
    (number_is_component name.number (95 ∷ origin name.session name.size) h.number
    (origin_bytes name.session name.size (session_has_component_bytes name.session h.session) h.size)
    (origin_is_short name.session name.size (length_of_session name.session h.session) h.size))

-- ---- for what answers by an `Option`

pub some_is_not_none : {T : Type 0} (r : Option T) (t : T) → r ≡ None → r ≡ Some t → ⊥
some_is_not_none r t none some = cc

pub same_some : {T : Type 0} (r : Option T) (s t : T) → r ≡ Some s → r ≡ Some t → s ≡ t
same_some r s t this that = cc

pub same_name : (number size : ℕ) (session : List ℕ) (name : SharedName) → number ≡ name.number → session ≡ name.session → size ≡ name.size →
    ◌≡◌ {A = SharedName} (record { number = number; session = session; size = size }) name
same_name number size session name p q r i = record { number = p i; session = q i; size = r i }

chosen : (at place count : ℕ) → at ≡ place → ltb place count ≡ true → cond (ltb at count) (Some at) None ≡ Some place
chosen at place count same within = rw (same, within)

-- where the first underscore was found
pub found_underscore : (front back text : List ℕ) (r : Option ℕ) → list_all (λ byte. not (byte == 95)) front ≡ true → text ≡ front ++ 95 ∷ back →
    r ≡ cond (ltb (position_or_len (λ byte. byte == 95) text) (length text)) (Some (position_or_len (λ byte. byte == 95) text)) None → r ≡ Some (length front)
found_underscore front back text r none cut found =
    let at : position_or_len (λ byte. byte == 95) text ≡ length front = ap (position_or_len (λ byte. byte == 95)) cut ∙ first_underscore front back none in
    let long : length text ≡ length front + (length back + 1) = ap length cut ∙ length-append front (95 ∷ back) ∙ omega arith in
    let within : ltb (length front) (length text) ≡ true = grind (arith, nat_tests) in
    found ∙ chosen (position_or_len (λ byte. byte == 95) text) (length front) (length text) at within

pub cut_there : (front back text : List ℕ) (at : ℕ) → text ≡ front ++ 95 ∷ back → at ≡ length front →
    (take at text ≡ front) × (take (length text - (at + 1)) (drop (at + 1) text) ≡ back)
cut_there front back text at cut there = (
  ap (λ (k : ℕ). take k text) there ∙ ap (take (length front)) cut ∙ take_at front (95 ∷ back) (length front) refl,
  take_rest text (at + 1)
      ∙ ap (λ (k : ℕ). drop (k + 1) text) there
      ∙ ap (drop (length front + 1)) cut
      ∙ drop-append-add front (95 ∷ back) 1,
)

-- ---- two names

-- a text is cut at its first underscore in one way
same_cut : (front back other rest : List ℕ) → list_all (λ byte. not (byte == 95)) front ≡ true → list_all (λ byte. not (byte == 95)) other ≡ true → front ++ 95 ∷ back ≡ other ++ 95 ∷ rest →
    (front ≡ other) × (back ≡ rest)
same_cut front back other rest p q same =
    let long : length front ≡ length other = sym (first_underscore front back p) ∙ ap (position_or_len (λ byte. byte == 95)) same ∙ first_underscore other rest q in
    let this = cut_there front back (front ++ 95 ∷ back) (length front) refl refl in
    let that = cut_there other rest (front ++ 95 ∷ back) (length front) same long in
    (sym this.0 ∙ that.0, sym this.1 ∙ that.1)

pub shared_injective : (a b : SharedName) → IsSharedName a → IsSharedName b → spelled_shared a ≡ spelled_shared b → a ≡ b
shared_injective a b p q same =
    let outer = same_cut (six_digits a.number) (origin a.session a.size) (six_digits b.number) (origin b.session b.size)
    (six_have_no_underscore a.number p.number) (six_have_no_underscore b.number q.number) (sym (shared_parts a) ∙ same ∙ shared_parts b) in
    let inner = same_cut a.session (decimal a.size ++ codes ".sst") b.session (decimal b.size ++ codes ".sst")
    (session_has_no_underscore a.session p.session) (session_has_no_underscore b.session q.session) (append_cancel_left (codes "s") _ _ outer.1) in
    let size = decimal_injective a.size b.size p.size q.size (append_cancel_right (decimal a.size) (decimal b.size) (codes ".sst") inner.1) in
    same_name a.number a.size a.session b (six_injective a.number b.number p.number q.number outer.0) inner.0 size
