-- How a number's digits are written from its last one on.
use Rattle.std.proofs.Common.{◌≡◌, ℕ, ◌+◌, ◌-◌, ◌/◌, ◌%◌, ◌^◌, ◌<◌, ◌≤◌, List, [], ◌∷◌, ◌++◌, length, take, drop, set, refl, ap, sym, ◌∙◌, arith, min, rules, zero, suc}
use Rattle.std.specs.Char.{is_ascii_digit}
use Rattle.std.specs.List.{list_all}
use Rattle.std.specs.Str.{IsAscii}
use Rattle.std.specs.Str.Parse.{digits_value, ParsesUnsigned}
use Rattle.std.proofs.lemmas.Str.Parse.{IsNumeralModel, numerals_by_value, parse_gives}
use Rattle.lsm_names.proofs.PathLemmas.{list_all-append}
use Rattle.std.specs.Prelude.{replicate, true, Result, Ok}
use Rattle.std.specs.Fmt.{decimal}
use Rattle.std.proofs.lemmas.Fmt.{decimal_digit, decimal_step, decimal_nonempty, length-decimal-le, digits_decimal, digits_value-decimal, IsAscii-from_digits}
use Rattle.std.proofs.lemmas.List.{append-nil, append_assoc, length-append, length-set, length-replicate, take-append-drop, take-set, take-take, take-replicate, drop-set, drop-append-le, drop-replicate}
use Rattle.lsm_names.specs.Numbers.{padded_decimal}

-- of twenty places, those from start on have the number's digits that aren't in rest, and zeros stand before them
pub record HasWritten (number rest start : ℕ) (digits : List ℕ) : Type 0 where
  pub whole : length digits ≡ 20
  pub zeros : take start digits ≡ replicate start 48
  pub written : decimal number ≡ decimal rest ++ drop start digits
  pub room : length (decimal rest) ≤ start
  pub within : start ≤ 20

pub begun : (number : ℕ) → number < 2 ^ 64 → HasWritten number number 20 (replicate 20 48)
begun number small = record {
  whole = refl;
  zeros = refl;
  written = sym (append-nil (decimal number));
  room = length-decimal-le 20 number (omega arith) (omega arith) small;
  within = omega arith;
}

-- a last digit has a place
pub has_place : (rest start : ℕ) → rest < 2 ^ 64 → length (decimal rest) ≤ start → 1 ≤ start
has_place rest start small room = omega (arith, decimal_nonempty rest small)

-- the zeros before one place less
fewer_zeros : (start : ℕ) (digits : List ℕ) (digit : ℕ) → take start digits ≡ replicate start 48 → take (start - 1) (set digits (start - 1) digit) ≡ replicate (start - 1) 48
fewer_zeros start digits digit zeros =
    let fewer : start - 1 ≤ start = omega arith in
    take-set digits (start - 1) digit
    ∙ sym (take-take (start - 1) start digits fewer)
    ∙ ap (take (start - 1)) zeros
    ∙ take-replicate (start - 1) start 48 fewer

-- the digit stands before those that were written
digit_before : (start : ℕ) (digits : List ℕ) (digit : ℕ) → 1 ≤ start → start ≤ length digits → drop (start - 1) (set digits (start - 1) digit) ≡ digit ∷ drop start digits
digit_before start digits digit some fits =
    let next : start - 1 + 1 ≡ start = omega arith in
    drop-set digits (start - 1) digit (omega arith) ∙ ap (λ (k : ℕ). digit ∷ drop k digits) next

pub one_more : (number rest start : ℕ) (digits : List ℕ) → rest < 2 ^ 64 → 10 ≤ rest → HasWritten number rest start digits →
    HasWritten number (rest / 10) (start - 1) (set digits (start - 1) (48 + rest % 10))
one_more number rest start digits small more h =
    let digit = 48 + rest % 10 in
    let front = decimal (rest / 10) in
    let step : decimal rest ≡ front ++ digit ∷ [] = decimal_step rest more small in
    let some : 1 ≤ start = has_place rest start small h.room in
    let long : length (decimal rest) ≡ length front + 1 = ap length step ∙ length-append front (digit ∷ []) in
    let placed = digit_before start digits digit some (omega (arith, h.whole, h.within)) in
    record {
      whole = length-set digits (start - 1) digit ∙ h.whole;
      zeros = fewer_zeros start digits digit h.zeros;
      written =
          h.written
          ∙ ap (λ (xs : List ℕ). xs ++ drop start digits) step
          ∙ append_assoc front (digit ∷ []) (drop start digits)
          ∙ ap (λ (xs : List ℕ). front ++ xs) (sym placed);
      room = omega (arith, h.room);
      within = omega (arith, h.within);
    }

-- all places, once the first digit is written
all_written : (number rest start : ℕ) (digits : List ℕ) → rest < 10 → HasWritten number rest start digits →
    set digits (start - 1) (48 + rest) ≡ replicate (start - 1) 48 ++ decimal number
all_written number rest start digits last h =
    let some : 1 ≤ start = has_place rest start (omega arith) h.room in
    let placed = digit_before start digits (48 + rest) some (omega (arith, h.whole, h.within)) in
    let one : decimal rest ≡ (48 + rest) ∷ [] = decimal_digit rest last in
    sym (take-append-drop (start - 1) (set digits (start - 1) (48 + rest)))
    ∙ ap (λ (xs : List ℕ). xs ++ drop (start - 1) (set digits (start - 1) (48 + rest))) (fewer_zeros start digits (48 + rest) h.zeros)
    ∙ ap (λ (xs : List ℕ). replicate (start - 1) 48 ++ xs) (placed ∙ ap (λ (xs : List ℕ). xs ++ drop start digits) (sym one) ∙ sym h.written)

-- from where at least so many places stand
cut_zeros : (least count zeros from : ℕ) (digits : List ℕ) → from ≤ zeros → zeros - from ≡ least - count → count ≡ length digits → drop from (replicate zeros 48 ++ digits) ≡ replicate (least - length digits) 48 ++ digits
cut_zeros least count zeros from digits within rest long =
    let fits : from ≤ length (replicate zeros 48) = omega (arith, length-replicate {A = ℕ} zeros 48) in
    drop-append-le from (replicate zeros 48) digits fits
    ∙ ap (λ (xs : List ℕ). xs ++ digits) (drop-replicate from zeros 48)
    ∙ ap (λ (k : ℕ). replicate k 48 ++ digits) (rest ∙ ap (λ (k : ℕ). least - k) long)

-- the first digit, and then the places from where at least so many stand
pub ended : (least number rest start : ℕ) (digits : List ℕ) → least ≤ 20 → rest < 10 → HasWritten number rest start digits →
    drop (min (start - 1) (20 - least)) (set digits (start - 1) (48 + rest)) ≡ padded_decimal least number
unfolding padded_decimal
ended least number rest start digits few last h =
    let all = all_written number rest start digits last h in
    let total : start - 1 + length (decimal number) ≡ 20 =
    ap (λ (k : ℕ). k + length (decimal number)) (sym (length-replicate {A = ℕ} (start - 1) 48))
    ∙ sym (length-append (replicate (start - 1) 48) (decimal number))
    ∙ sym (ap length all)
    ∙ length-set digits (start - 1) (48 + rest)
    ∙ h.whole in
    ap (drop (min (start - 1) (20 - least))) all
    ∙ cut_zeros least (length (decimal number)) (start - 1) (min (start - 1) (20 - least)) (decimal number) (omega arith) (omega arith) refl

-- ---- reading them back

-- digits, and their value
pub digit_texts : IsNumeralModel (λ (ds : List ℕ). list_all is_ascii_digit ds ≡ true) (digits_value 10)
digit_texts = numerals_by_value (λ (ds : List ℕ). list_all is_ascii_digit ds ≡ true) (search rules)

zero_digits : (count : ℕ) → list_all is_ascii_digit (replicate count 48) ≡ true
zero_digits zero = refl
zero_digits (suc count) = zero_digits count

zeros_add_nothing : (count : ℕ) (digits : List ℕ) → digits_value 10 (replicate count 48 ++ digits) ≡ digits_value 10 digits
zeros_add_nothing zero digits = refl
zeros_add_nothing (suc count) digits = zeros_add_nothing count digits

pub padded_is_digits : (least number : ℕ) → number < 2 ^ 64 → list_all is_ascii_digit (padded_decimal least number) ≡ true
unfolding padded_decimal
padded_is_digits least number small =
    list_all-append is_ascii_digit (replicate (least - length (decimal number)) 48) (decimal number)
    (zero_digits (least - length (decimal number)))
    (digits_decimal digit_texts number small)

pub padded_value : (least number : ℕ) → number < 2 ^ 64 → digits_value 10 (padded_decimal least number) ≡ number
unfolding padded_decimal
padded_value least number small = zeros_add_nothing (least - length (decimal number)) (decimal number) ∙ digits_value-decimal digit_texts number small

pub padded_injective : (least m n : ℕ) → m < 2 ^ 64 → n < 2 ^ 64 → padded_decimal least m ≡ padded_decimal least n → m ≡ n
padded_injective least m n p q same = sym (padded_value least m p) ∙ ap (digits_value 10) same ∙ padded_value least n q

pub padded_has_digits : (least number : ℕ) → number < 2 ^ 64 → 0 < length (padded_decimal least number)
unfolding padded_decimal
padded_has_digits least number small =
    omega (arith, decimal_nonempty number small, length-append (replicate (least - length (decimal number)) 48) (decimal number))

pub padded_is_short : (least number : ℕ) → least ≤ 20 → number < 2 ^ 64 → length (padded_decimal least number) ≤ 20
unfolding padded_decimal
padded_is_short least number few small =
    omega (
      arith,
      length-decimal-le 20 number (omega arith) (omega arith) small,
      length-append (replicate (least - length (decimal number)) 48) (decimal number),
      length-replicate {A = ℕ} (least - length (decimal number)) 48,
    )

pub padded_is_ascii : (least number : ℕ) → number < 2 ^ 64 → IsAscii (padded_decimal least number)
padded_is_ascii least number small =
    IsAscii-from_digits (padded_decimal least number) (digit_texts.to (padded_decimal least number) (padded_is_digits least number small))

-- what `parse` gives of them
pub parsed : {E : Type 0} (least number : ℕ) (digits : List ℕ) (r : Result ℕ E) → number < 2 ^ 64 → digits ≡ padded_decimal least number → ParsesUnsigned 64 10 digits r → r ≡ Ok number
parsed least number digits r small same reads =
    let whole : list_all is_ascii_digit digits ≡ true = ap (list_all is_ascii_digit) same ∙ padded_is_digits least number small in
    let value : digits_value 10 digits ≡ number = ap (digits_value 10) same ∙ padded_value least number small in
    let some : 0 < length digits = omega (arith, ap length same, padded_has_digits least number small) in
    parse_gives digit_texts 64 digits r reads whole some (omega arith) ∙ ap (λ (n : ℕ). Ok n) value
