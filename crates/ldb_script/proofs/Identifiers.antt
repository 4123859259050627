-- The identifier that a word spells.
use Rattle.std.proofs.Common.{◌≡◌, ℕ, ◌^◌, ◌<◌, ◌≤◌, List, length, Bool, true, false, refl, ap, sym, subst, ◌∙◌, arith, Some, None, Result, Ok, Err}
use Rattle.std.specs.Prelude.{if◌then◌else◌}
use Rattle.std.specs.Char.{is_ascii_digit}
use Rattle.std.specs.List.{list_all}
use Rattle.std.specs.Fmt.{decimal}
use Rattle.std.specs.Str.{IsAscii, bytes_eq}
use Rattle.std.specs.Str.Parse.{digits_value, ParsesUnsigned}
use Rattle.std.specs.Result.{result_ok}
use Rattle.std.proofs.lemmas.Bool.Decides.{nat_tests}
use Rattle.std.proofs.lemmas.Slice.Eq.{bytes_eq-Decides}
use Rattle.std.proofs.lemmas.Fmt.{decimal_nonempty, digits_value-decimal, digits_decimal, IsAscii-from_digits}
use Rattle.std.proofs.lemmas.Str.Parse.{parse_gives}
use Rattle.lsm_names.proofs.NumberLemmas.{digit_texts}
use Rattle.ldb_script.specs.Script.{is_spelled_identifier, identifier_of}

-- a spelled identifier: what it says of its word
pub record IsSpelled (id : ℕ) (word : List ℕ) : Type 0 where
  pub some : 1 ≤ id
  pub small : id < 2 ^ 32
  pub spells : word ≡ decimal id

spelled_by : (id : ℕ) (word : List ℕ) → is_spelled_identifier id word ≡ true → IsSpelled id word
spelled_by id word is = record { some = grind (arith, nat_tests); small = grind (arith, nat_tests); spells = (bytes_eq-Decides word (decimal id)).0 (grind (arith, nat_tests)) }

spelled : (id : ℕ) (word : List ℕ) → 1 ≤ id → id < 2 ^ 32 → word ≡ decimal id → is_spelled_identifier id word ≡ true
spelled id word some small is = let same : bytes_eq word (decimal id) ≡ true = (bytes_eq-Decides word (decimal id)).1 is in grind (arith, nat_tests)

-- such a word is text
pub spelled_is_ascii : (id : ℕ) (word : List ℕ) → IsSpelled id word → IsAscii word
spelled_is_ascii id word is =
    let small : id < 2 ^ 64 = omega (arith, is.small) in
    subst IsAscii (sym is.spells) (IsAscii-from_digits (decimal id) (digit_texts.to (decimal id) (digits_decimal digit_texts id small)))

-- and its identifier is read
pub spelled_parses : {E : Type 0} (id : ℕ) (word : List ℕ) (r : Result ℕ E) → IsSpelled id word → ParsesUnsigned 32 10 word r → r ≡ Ok id
spelled_parses id word r is parses =
    let small : id < 2 ^ 64 = omega (arith, is.small) in
    let value : digits_value 10 word ≡ id = ap (digits_value 10) is.spells ∙ digits_value-decimal digit_texts id small in
    parse_gives digit_texts 32 word r parses (ap (list_all is_ascii_digit) is.spells ∙ digits_decimal digit_texts id small) (omega (arith, ap length is.spells, decimal_nonempty id small)) (omega (arith, value, is.small))
    ∙ ap (λ (n : ℕ). Ok n) value

-- the identifier of a word, where it is one
pub identifier_is : (id : ℕ) (word : List ℕ) → is_spelled_identifier id word ≡ true → Some id ≡ identifier_of word
unfolding identifier_of
identifier_is id word is =
    let spells : IsSpelled id word = spelled_by id word is in
    let value : digits_value 10 word ≡ id = ap (digits_value 10) spells.spells ∙ digits_value-decimal digit_texts id (omega (arith, spells.small)) in
    sym (ap (λ (b : Bool). if b then Some (digits_value 10 word) else None) (ap (λ (n : ℕ). is_spelled_identifier n word) value ∙ is) ∙ ap (λ (n : ℕ). Some n) value)

-- the same text
pub spelled_as : (id : ℕ) (text word : List ℕ) → text ≡ word → IsSpelled id word → IsSpelled id text
spelled_as id text word same is = record { some = is.some; small = is.small; spells = same ∙ is.spells }

pub not_spelled : (n id : ℕ) (word : List ℕ) → n ≡ id → is_spelled_identifier n word ≡ false → IsSpelled id word → ⊥
not_spelled n id word same not is = let yes : is_spelled_identifier n word ≡ true = ap (λ (m : ℕ). is_spelled_identifier m word) same ∙ spelled id word is.some is.small is.spells in cc

-- a word of which no identifier is read has none
pub no_identifier : (word : List ℕ) → ((id : ℕ) → IsSpelled id word → ⊥) → None ≡ identifier_of word
unfolding identifier_of
no_identifier word never = none (is_spelled_identifier (digits_value 10 word) word) (λ is. never (digits_value 10 word) (spelled_by (digits_value 10 word) word is)) where
  none : (b : Bool) → (b ≡ true → ⊥) → None ≡ (if b then Some (digits_value 10 word) else None)
  none true h = absurd (h refl)
  none false h = refl

pub left_none : {E : Type 0} (r : Result ℕ E) (id : ℕ) → result_ok r ≡ None → r ≡ Ok id → ⊥
left_none (Ok n) id left is = cc
left_none (Err e) id left is = cc

pub left_some : {E : Type 0} (r : Result ℕ E) (n id : ℕ) → result_ok r ≡ Some n → r ≡ Ok id → n ≡ id
left_some (Ok m) n id left is = cc
left_some (Err e) n id left is = absurd (cc)
