-- No two file names have one spelling, and each is a component of a path.
use Rattle.std.proofs.Common.{◌≡◌, ℕ, ◌^◌, ◌<◌, ◌≤◌, List, [], ◌∷◌, ◌++◌, length, true, refl, ap, sym, ◌∙◌, arith}
use Rattle.std.specs.Prelude.{codes, slice_index, if◌then◌else◌, Option, Some, None, IfSome}
use Rattle.std.specs.Char.{is_ascii_digit, is_ascii_alphanumeric}
use Rattle.std.specs.List.{list_all}
use Rattle.std.proofs.lemmas.Bool.Decides.{nat_tests}
use Rattle.std.proofs.lemmas.List.{append_cancel_left, append_cancel_right, append_assoc, length-append}
use Rattle.lsm_names.specs.declared.file_names.FileName.{FileName}
use Rattle.lsm_names.specs.declared.file_names.FileName.TheVariants.{Log, Table, Manifest, Temp, Current}
use Rattle.lsm_names.specs.FileNames.{spelled, IsFileName}
use Rattle.lsm_names.specs.Numbers.{six_digits, is_file_number}
use Rattle.lsm_names.specs.Paths.{is_component_byte, is_component}
use Rattle.lsm_names.proofs.NumberLemmas.{padded_is_digits, padded_injective, padded_has_digits, padded_is_short}
use Rattle.lsm_names.proofs.PathLemmas.{list_all-append, list_all-weaker, component_of_parts, not_dots}
use Rattle.std.proofs.lemmas.Bool.{and_parts}

-- ---- a file's number

pub file_number_fits : (number : ℕ) → is_file_number number ≡ true → number < 2 ^ 64
file_number_fits number h = grind (arith, nat_tests)

pub six_are_digits : (number : ℕ) → is_file_number number ≡ true → list_all is_ascii_digit (six_digits number) ≡ true
six_are_digits number h = padded_is_digits 6 number (file_number_fits number h)

has_six : (number : ℕ) → is_file_number number ≡ true → 0 < length (six_digits number)
has_six number h = padded_has_digits 6 number (file_number_fits number h)

pub six_injective : (m n : ℕ) → is_file_number m ≡ true → is_file_number n ≡ true → six_digits m ≡ six_digits n → m ≡ n
six_injective m n p q same = padded_injective 6 m n (file_number_fits m p) (file_number_fits n q) same

pub six_is_short : (number : ℕ) → is_file_number number ≡ true → length (six_digits number) ≤ 20
six_is_short number h = padded_is_short 6 number (omega arith) (file_number_fits number h)

digit_first : (digits behind : List ℕ) → 0 < length digits → list_all is_ascii_digit digits ≡ true → is_ascii_digit (slice_index (digits ++ behind) 0) ≡ true
digit_first [] behind some h = absurd (omega arith)
digit_first (digit ∷ digits) behind some h = (and_parts (is_ascii_digit digit) (list_all is_ascii_digit digits) h).0

number_first : (number : ℕ) (behind : List ℕ) → is_file_number number ≡ true → is_ascii_digit (slice_index (six_digits number ++ behind) 0) ≡ true
number_first number behind h = digit_first (six_digits number) behind (has_six number h) (six_are_digits number h)

-- ---- what tells the kinds of names from each other

abbrev last_of : List ℕ → ℕ
last_of [] = 0
last_of (x ∷ []) = x
last_of (x ∷ y ∷ ys) = last_of (y ∷ ys)

last_of-append : (xs : List ℕ) (y : ℕ) (ys : List ℕ) → last_of (xs ++ y ∷ ys) ≡ last_of (y ∷ ys)
last_of-append [] y ys = refl
last_of-append (x ∷ []) y ys = refl
last_of-append (x ∷ w ∷ xs) y ys = last_of-append (w ∷ xs) y ys

-- the last byte where a number stands in front, else the first
abbrev mark_of : List ℕ → ℕ
mark_of text = if is_ascii_digit (slice_index text 0) then last_of text else slice_index text 0

abbrev mark : FileName → ℕ
mark (Log number) = 103
mark (Table number) = 116
mark (Manifest number) = 77
mark (Temp number) = 112
mark Current = 67

marked_behind : (number : ℕ) (first : ℕ) (behind : List ℕ) → is_file_number number ≡ true → mark_of (six_digits number ++ first ∷ behind) ≡ last_of (first ∷ behind)
marked_behind number first behind h = rw (number_first number (first ∷ behind) h) (last_of-append (six_digits number) first behind)

marked : (name : FileName) → IsFileName name → mark_of (spelled name) ≡ mark name
unfolding spelled
marked (Log number) h = marked_behind number 46 (codes "log") h
marked (Table number) h = marked_behind number 46 (codes "sst") h
marked (Manifest number) h = refl
marked (Temp number) h = marked_behind number 46 (codes "dbtmp") h
marked Current h = refl

pub spelled_injective : (a b : FileName) → IsFileName a → IsFileName b → spelled a ≡ spelled b → a ≡ b
unfolding spelled
spelled_injective (Log m) (Log n) p q same = ap (λ (k : ℕ). Log k) (six_injective m n p q (append_cancel_right (six_digits m) (six_digits n) (codes ".log") same))
spelled_injective (Table m) (Table n) p q same = ap (λ (k : ℕ). Table k) (six_injective m n p q (append_cancel_right (six_digits m) (six_digits n) (codes ".sst") same))
spelled_injective (Manifest m) (Manifest n) p q same = ap (λ (k : ℕ). Manifest k) (six_injective m n p q (append_cancel_left (codes "MANIFEST-") (six_digits m) (six_digits n) same))
spelled_injective (Temp m) (Temp n) p q same = ap (λ (k : ℕ). Temp k) (six_injective m n p q (append_cancel_right (six_digits m) (six_digits n) (codes ".dbtmp") same))
spelled_injective Current Current p q same = refl
spelled_injective a b p q same = absurd (omega (arith, marked a p, marked b q, ap mark_of same))

-- ---- a name is a component

pub digit_is_component_byte : (byte : ℕ) → is_ascii_digit byte ≡ true → is_component_byte byte ≡ true
unfolding is_component_byte
digit_is_component_byte byte h = grind (arith, nat_tests)

pub digit_is_alphanumeric : (byte : ℕ) → is_ascii_digit byte ≡ true → is_ascii_alphanumeric byte ≡ true
digit_is_alphanumeric byte h = grind (arith, nat_tests)

pub six_are_component_bytes : (number : ℕ) → is_file_number number ≡ true → list_all is_component_byte (six_digits number) ≡ true
six_are_component_bytes number h = list_all-weaker is_ascii_digit is_component_byte digit_is_component_byte (six_digits number) (six_are_digits number h)

pub number_is_component : (number : ℕ) (behind : List ℕ) → is_file_number number ≡ true → list_all is_component_byte behind ≡ true → length behind ≤ 80 → is_component (six_digits number ++ behind) ≡ true
number_is_component number behind h bytes short =
    let long = length-append (six_digits number) behind in
    component_of_parts (six_digits number ++ behind) (omega (arith, has_six number h, long)) (omega (arith, six_is_short number h, long))
    (list_all-append is_component_byte (six_digits number) behind (six_are_component_bytes number h) bytes)
    (not_dots (six_digits number ++ behind) (digit_is_alphanumeric (slice_index (six_digits number ++ behind) 0) (number_first number behind h)))

pub spelled_is_component : (name : FileName) → IsFileName name → is_component (spelled name) ≡ true
unfolding spelled is_component_byte
spelled_is_component (Log number) h = number_is_component number (codes ".log") h refl (omega arith)
spelled_is_component (Table number) h = number_is_component number (codes ".sst") h refl (omega arith)
spelled_is_component (Manifest number) h =
    let six = six_digits number in
    component_of_parts (codes "MANIFEST-" ++ six) (omega arith) (omega (arith, six_is_short number h, length-append (codes "MANIFEST-") six))
    (list_all-append is_component_byte (codes "MANIFEST-") six refl (six_are_component_bytes number h))
    (not_dots (codes "MANIFEST-" ++ six) refl)
spelled_is_component (Temp number) h = number_is_component number (codes ".dbtmp") h refl (omega arith)
spelled_is_component Current h = component_of_parts (codes "CURRENT") (omega arith) (omega arith) refl (not_dots (codes "CURRENT") refl)

-- MANIFEST- and twenty digits have most
pub spelled_is_short : (name : FileName) → IsFileName name → length (spelled name) ≤ 29
unfolding spelled
spelled_is_short (Log number) h = omega (arith, six_is_short number h, length-append (six_digits number) (codes ".log"))
spelled_is_short (Table number) h = omega (arith, six_is_short number h, length-append (six_digits number) (codes ".sst"))
spelled_is_short (Manifest number) h = omega (arith, six_is_short number h, length-append (codes "MANIFEST-") (six_digits number))
spelled_is_short (Temp number) h = omega (arith, six_is_short number h, length-append (six_digits number) (codes ".dbtmp"))
spelled_is_short Current h = omega arith

-- a number that stands between two texts
pub stands_between : (r : Option ℕ) (text before behind inner digits : List ℕ) → text ≡ before ++ inner → inner ≡ digits ++ behind → IfSome r (λ n. digits ≡ six_digits n) →
    IfSome r (λ n. text ≡ before ++ six_digits n ++ behind)
stands_between None text before behind inner digits front back six = tt
stands_between (Some n) text before behind inner digits front back six =
    front ∙ ap (λ (xs : List ℕ). before ++ xs) (back ∙ ap (λ (xs : List ℕ). xs ++ behind) six) ∙ sym (append_assoc before (six_digits n) behind)
