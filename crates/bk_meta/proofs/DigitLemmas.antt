-- Lower-case hexadecimal digits are those of the bytes that they spell.
use Rattle.std.proofs.Common.{◌≡◌, ℕ, ◌+◌, ◌*◌, ◌/◌, ◌%◌, ◌<◌, ◌≤◌, List, [], ◌∷◌, length, Bool, true, false, refl, ap, sym, ◌∙◌, arith, Option, Some, None, Result, Ok, Err}
use Rattle.std.specs.Prelude.{◌==◌, ◌&&◌, nat_le, if◌then◌else◌, slice_index, unwrap_or}
use Rattle.std.specs.List.{list_all}
use Rattle.std.specs.Result.{result_ok}
use Rattle.std.proofs.lemmas.Bool.{agree_below_at, and_parts}
use Rattle.std.proofs.lemmas.Bool.Decides.{nat_tests}
use Rattle.hex.specs.declared.error.FromHexError.{FromHexError}
use Rattle.hex.specs.Hex.{encode_lower, encode_with, lower_digits, decode_of, decode_pairs, hex_digit_value, digit_or_error, IsBytes, pair_value, value_at, ◌>>=◌}
use Rattle.hex.proofs.HexLemmas.{decode_of-ok, decode_of-even}
use Rattle.bk_meta.specs.Numbers.{is_lower_digit, metadata_of}

-- ---- one digit

returns_digit : ℕ → Bool
returns_digit digit = if is_lower_digit digit then slice_index lower_digits (unwrap_or (hex_digit_value digit) 0) == digit else true

abbrev always : ℕ → Bool
always digit = true

small_digit : (digit : ℕ) → is_lower_digit digit ≡ true → digit < 128
unfolding is_lower_digit
small_digit digit h = grind (arith, nat_tests)

of_true : (is same : Bool) → is ≡ true → (if is then same else true) ≡ true → same ≡ true
of_true is same p q = rw p at q

digit_returns : (digit value : ℕ) → is_lower_digit digit ≡ true → hex_digit_value digit ≡ Some value → slice_index lower_digits value ≡ digit
unfolding returns_digit is_lower_digit
digit_returns digit value h k =
    let whole = agree_below_at returns_digit always 128 digit refl (small_digit digit h) in
    let same : slice_index lower_digits (unwrap_or (hex_digit_value digit) 0) == digit ≡ true = of_true (is_lower_digit digit) (slice_index lower_digits (unwrap_or (hex_digit_value digit) 0) == digit) h whole in
    let there : slice_index lower_digits (unwrap_or (hex_digit_value digit) 0) ≡ digit = grind (arith, nat_tests, same) in
    ap (λ (v : Option ℕ). slice_index lower_digits (unwrap_or v 0)) (sym k) ∙ there

value_is_small : (digit value : ℕ) → hex_digit_value digit ≡ Some value → value < 16
value_is_small digit value h = grind (arith)

-- ---- all of them

first_ok : {A B : Type 0} (r : Result A FromHexError) (next : A → Result B FromHexError) (y : B) → (r >>= next) ≡ Ok y → (x : A) × (r ≡ Ok x) × (next x ≡ Ok y)
first_ok (Ok x) next y h = (x, refl, h)
first_ok (Err bad) next y h = absurd (cc)

same_value : {A : Type 0} (x y : A) → ◌≡◌ {A = Result A FromHexError} (Ok x) (Ok y) → x ≡ y
same_value x y h = cc

digit_was : (digit place : ℕ) (read : Option ℕ) (value : ℕ) → digit_or_error digit place read ≡ Ok value → read ≡ Some value
digit_was digit place None value h = absurd (cc)
digit_was digit place (Some v) value h = cc

pairs_return : (place : ℕ) (digits bytes : List ℕ) → decode_pairs place digits ≡ Ok bytes → list_all is_lower_digit digits ≡ true → digits ≡ encode_lower bytes
unfolding decode_pairs encode_with
pairs_return place [] bytes h whole =
    let none : [] ≡ bytes = same_value [] bytes h in
    ap encode_lower none
pairs_return place (one ∷ []) bytes h whole = absurd (cc)
pairs_return place (high ∷ low ∷ digits) bytes h whole =
    let pair = first_ok (pair_value high low place) _ bytes h in
    let first = first_ok (value_at high place) _ pair.0 pair.1 in
    let second = first_ok (value_at low (place + 1)) _ pair.0 first.2 in
    let rest = first_ok (decode_pairs (place + 2) digits) _ bytes pair.2 in
    let cut = and_parts (is_lower_digit high) (list_all is_lower_digit (low ∷ digits)) whole in
    let inner = and_parts (is_lower_digit low) (list_all is_lower_digit digits) cut.1 in
    let high_value = digit_was high place (hex_digit_value high) first.0 first.1 in
    let low_value = digit_was low (place + 1) (hex_digit_value low) second.0 second.1 in
    let byte : first.0 * 16 + second.0 ≡ pair.0 = same_value (first.0 * 16 + second.0) pair.0 second.2 in
    let a = value_is_small high first.0 high_value in
    let b = value_is_small low second.0 low_value in
    let upper : pair.0 / 16 ≡ first.0 = omega arith in
    let lower : pair.0 % 16 ≡ second.0 = omega arith in
    let later = pairs_return (place + 2) digits rest.0 rest.1 inner.1 in
    let left = sym (digit_returns high first.0 cut.0 high_value) ∙ ap (slice_index lower_digits) (sym upper) in
    let right = sym (digit_returns low second.0 inner.0 low_value) ∙ ap (slice_index lower_digits) (sym lower) in
    (λ i. left i ∷ right i ∷ later i) ∙ ap encode_lower (same_value (pair.0 ∷ rest.0) bytes rest.2)

tested : (a b c : Bool) (it : Option (List ℕ)) (bytes : List ℕ) → (if a && b && c then it else None) ≡ Some bytes → (a ≡ true) × (b ≡ true) × (c ≡ true) × (it ≡ Some bytes)
tested true true true it bytes h = (refl, refl, refl, h)
tested true true false it bytes h = absurd (cc)
tested true false c it bytes h = absurd (cc)
tested false b c it bytes h = absurd (cc)

was_ok : (r : Result (List ℕ) FromHexError) (bytes : List ℕ) → result_ok r ≡ Some bytes → r ≡ Ok bytes
was_ok (Ok x) bytes h = cc
was_ok (Err e) bytes h = absurd (cc)

-- what digits of metadata spell
pub record IsMetadata (digits bytes : List ℕ) : Type 0 where
  pub spelled : digits ≡ encode_lower bytes
  pub some : 1 ≤ length bytes
  pub short : length bytes ≤ 1024
  pub each : IsBytes bytes

pub metadata_spells : (digits bytes : List ℕ) → metadata_of digits ≡ Some bytes → IsMetadata digits bytes
unfolding metadata_of
metadata_spells digits bytes h =
    let parts = tested (list_all is_lower_digit digits) (nat_le 2 (length digits)) (nat_le (length digits) 2048) (result_ok (decode_of digits)) bytes h in
    let read = was_ok (decode_of digits) bytes parts.3 in
    let said = decode_of-ok digits bytes read in
    let least : 2 ≤ length digits = grind (arith, nat_tests, parts.1) in
    let most : length digits ≤ 2048 = grind (arith, nat_tests, parts.2) in
    record {
      spelled = pairs_return 0 digits bytes (sym (decode_of-even digits said.0) ∙ read) parts.0;
      some = omega (arith, said.2);
      short = omega (arith, said.2);
      each = said.3;
    }
