-- Numbers as a meta spells them.
use Rattle.std.proofs.Common.{◌≡◌, ℕ, ◌^◌, ◌<◌, ◌≤◌, List, length, get_or, Bool, true, false, refl, ap, sym, ◌∙◌, arith, Option, Some, None, Result, Ok, Err, subst, inl, inr}
use Rattle.std.specs.Prelude.{◌&&◌, nat_le, if◌then◌else◌, is_some, is_ok, IsOk}
use Rattle.std.specs.Char.{is_ascii_digit}
use Rattle.std.specs.Fmt.{decimal}
use Rattle.std.specs.List.{list_all}
use Rattle.std.specs.Result.{MatchResult, OkIff, result_ok}
use Rattle.std.specs.Str.{IsAscii}
use Rattle.std.specs.Str.Parse.{digits_value, ParsesUnsigned}
use Rattle.std.proofs.lemmas.Bool.{cases_eq, cases_lt}
use Rattle.std.proofs.lemmas.Bool.Decides.{nat_tests}
use Rattle.std.proofs.lemmas.Fmt.{decimal_nonempty, decimal-digits_value, digits_value-decimal, digits_decimal, first_decimal, IsAscii-from_digits, decimal_digit}
use Rattle.std.proofs.lemmas.Str.Parse.{parse_digits}
use Rattle.lsm_names.proofs.NumberLemmas.{digit_texts}
use Rattle.bk_meta.specs.Numbers.{is_decimal, number_up_to}

-- ---- what the test says

pub decimal_has_digits : (text : List ℕ) → is_decimal text ≡ true → list_all is_ascii_digit text ≡ true
unfolding is_decimal
decimal_has_digits text h = grind (arith, nat_tests)

pub decimal_has_bytes : (text : List ℕ) → is_decimal text ≡ true → 0 < length text
unfolding is_decimal
decimal_has_bytes text h = grind (arith, nat_tests)

decimal_begins : (text : List ℕ) → is_decimal text ≡ true → get_or text 0 0 ≡ 48 → length text ≡ 1
unfolding is_decimal
decimal_begins text h zero = grind (arith, nat_tests)

pub decimal_is_ascii : (text : List ℕ) → is_decimal text ≡ true → IsAscii text
decimal_is_ascii text h = IsAscii-from_digits text (digit_texts.to text (decimal_has_digits text h))

decimal_by_parts : (text : List ℕ) → 0 < length text → list_all is_ascii_digit text ≡ true → (get_or text 0 0 ≡ 48 → length text ≡ 1) → is_decimal text ≡ true
unfolding is_decimal
decimal_by_parts text some digits first =
    elim (cases_eq (get_or text 0 0) 48) [
      | inl zero ↦ let one = first zero in grind (arith, nat_tests)
      | inr other ↦ grind (arith, nat_tests)
    ]

-- ---- both ways

first_of_decimal : (number : ℕ) → number < 2 ^ 64 → get_or (decimal number) 0 0 ≡ 48 → length (decimal number) ≡ 1
first_of_decimal number small zero =
    elim (cases_eq number 0) [
      | inl none ↦ ap length (decimal_digit number (omega arith))
      | inr some ↦ absurd (omega (arith, first_decimal number (omega arith) small))
    ]

pub decimal_is_decimal : (number : ℕ) → number < 2 ^ 64 → is_decimal (decimal number) ≡ true
decimal_is_decimal number small =
    decimal_by_parts (decimal number) (decimal_nonempty number small) (digits_decimal digit_texts number small) (first_of_decimal number small)

chosen : (last value : ℕ) (is : Bool) → is ≡ true → value ≤ last → (if is && nat_le value last then Some value else None) ≡ Some value
chosen last value is known within = grind (arith, nat_tests)

pub number_by_value : (last : ℕ) (text : List ℕ) → is_decimal text ≡ true → digits_value 10 text ≤ last → number_up_to last text ≡ Some (digits_value 10 text)
unfolding number_up_to
number_by_value last text is within = chosen last (digits_value 10 text) (is_decimal text) is within

pub number_found : (last number : ℕ) → number ≤ last → number < 2 ^ 64 → number_up_to last (decimal number) ≡ Some number
number_found last number within small =
    let value = digits_value-decimal digit_texts number small in
    number_by_value last (decimal number) (decimal_is_decimal number small) (rw value within) ∙ ap (λ (n : ℕ). Some n) value

number_parts : (last value number : ℕ) (is : Bool) → (if is && nat_le value last then Some value else None) ≡ Some number → (is ≡ true) × (value ≡ number) × (number ≤ last)
number_parts last value number true h = grind (arith, nat_tests)
number_parts last value number false h = absurd (cc)

pub number_spells : (last number : ℕ) (text : List ℕ) → last < 2 ^ 64 → number_up_to last text ≡ Some number → (text ≡ decimal number) × (number ≤ last)
unfolding number_up_to
number_spells last number text room h =
    let parts = number_parts last (digits_value 10 text) number (is_decimal text) h in
    let spelled = decimal-digits_value digit_texts text (decimal_has_digits text parts.0) (decimal_has_bytes text parts.0) (decimal_begins text parts.0) (omega arith) in
    (sym spelled ∙ ap decimal parts.1, parts.2)

pub number_within : (last number : ℕ) (text : List ℕ) → number_up_to last text ≡ Some number → number ≤ last
unfolding number_up_to
number_within last number text h = (number_parts last (digits_value 10 text) number (is_decimal text) h).2

-- ---- what the code answers

refused : (last value : ℕ) (is : Bool) → (is ≡ true → last < value) → None ≡ (if is && nat_le value last then Some value else None)
refused last value true past = let far = past refl in grind (arith, nat_tests)
refused last value false past = refl

pub no_decimal : (last : ℕ) (text : List ℕ) → is_decimal text ≡ false → None ≡ number_up_to last text
unfolding number_up_to
no_decimal last text is = refused last (digits_value 10 text) (is_decimal text) (λ h. absurd (cc))

pub past_last : (last : ℕ) (text : List ℕ) → last < digits_value 10 text → None ≡ number_up_to last text
unfolding number_up_to
past_last last text past = refused last (digits_value 10 text) (is_decimal text) (λ h. past)

value_of : {E : Type 0} (r : Result ℕ E) (number value : ℕ) (P : Type 0) → result_ok r ≡ Some number → OkIff r P value → number ≡ value
value_of (Ok n) number value P left answers = let same : n ≡ number = cc in sym same ∙ answers.1
value_of (Err e) number value P left answers = absurd (cc)

no_value : {E : Type 0} (r : Result ℕ E) (value : ℕ) (P : Type 0) → result_ok r ≡ None → OkIff r P value → P → ⊥
no_value (Ok n) value P left answers holds = absurd (cc)
no_value (Err e) value P left answers holds = answers holds

-- `parse` gave a number
pub parsed_value : {E : Type 0} (text : List ℕ) (r : Result ℕ E) (number : ℕ) → is_decimal text ≡ true → ParsesUnsigned 64 10 text r → result_ok r ≡ Some number → number ≡ digits_value 10 text
parsed_value text r number is parses left =
    value_of r number (digits_value 10 text) _ left (parse_digits digit_texts 64 text r parses (decimal_has_digits text is))

-- `parse` gave none
pub parsed_none : {E : Type 0} (text : List ℕ) (r : Result ℕ E) → is_decimal text ≡ true → ParsesUnsigned 64 10 text r → result_ok r ≡ None → 2 ^ 64 ≤ digits_value 10 text
parsed_none text r is parses left =
    let not_so = no_value r (digits_value 10 text) _ left (parse_digits digit_texts 64 text r parses (decimal_has_digits text is)) in
    elim (cases_lt (digits_value 10 text) (2 ^ 64)) [
      | inl small ↦ absurd (not_so (decimal_has_bytes text is, small))
      | inr large ↦ large
    ]

-- ---- for what `ok` left of a result

pub at_ok : {T E : Type 0} (r : Result T E) (t : T) (P : T → Type 0) (Q : E → Type 0) → result_ok r ≡ Some t → MatchResult r P Q → P t
at_ok (Ok s) t P Q left fact = let same : s ≡ t = cc in subst P same fact
at_ok (Err e) t P Q left fact = absurd (cc)

pub at_err : {T E : Type 0} (r : Result T E) (P : T → Type 0) (Q : E → Type 0) → result_ok r ≡ None → MatchResult r P Q → (e : E) × Q e
at_err (Ok s) P Q left fact = absurd (cc)
at_err (Err e) P Q left fact = (e, fact)

-- `ok` left nothing of a result that is one
pub not_left : {T E : Type 0} (r : Result T E) (o : Option T) → o ≡ None → is_some o ≡ is_ok r → IsOk r → ⊥
not_left (Ok t) o none variant ok = let empty = ap is_some none in absurd (cc)
not_left (Err e) o none variant ok = absurd (cc)
