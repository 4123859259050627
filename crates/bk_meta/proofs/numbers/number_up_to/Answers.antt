use Rattle.std.proofs.Common.{◌≡◌, Some, ◌∙◌, sym, ap, arith, rules, true, ℕ}
use Rattle.std.specs.Str.Parse.{digits_value}
use Rattle.std.proofs.lemmas.Str.{IsUtf8-from_ascii}
use Rattle.bk_meta.specs.Numbers.{is_decimal}
use Rattle.bk_meta.proofs.NumberLemmas.{no_decimal, past_last, number_by_value, decimal_is_ascii, parsed_value, parsed_none, at_ok, at_err}
use Rattle.bk_meta.proofs.numbers.number_up_to.Goals as goal

pub returns-then-not-is_decimal : goal.returns-then-not-is_decimal
returns-then-not-is_decimal c = no_decimal c.args.last c.args.text.now (search rules)

pub returns-in_err-ok : goal.returns-in_err-ok
returns-in_err-ok c =
    let is : is_decimal c.args.text.now ≡ true = search rules in
    let refused = at_err c.from_utf8.result _ _ (sym c.ok.ensures.value ∙ c.in_err-ok.was) c.from_utf8.ensures.cases in
    absurd (refused.1.0 (IsUtf8-from_ascii c.args.text.now (decimal_is_ascii c.args.text.now is)))

pub returns-in_err-number : goal.returns-in_err-number
returns-in_err-number c =
    let is : is_decimal c.args.text.now ≡ true = search rules in
    let text = c.in_ok-ok.field-0 in
    let bytes = at_ok c.from_utf8.result text _ _ (sym c.ok.ensures.value ∙ c.in_ok-ok.was) c.from_utf8.ensures.cases in
    let large = parsed_none text.now c.parse.result (ap is_decimal bytes.0 ∙ is) c.parse.ensures.value.0 (sym c.ok-2.ensures.value ∙ c.in_err-number.was) in
    let past = past_last c.args.last c.args.text.now (omega (arith, c.ranges.last, large, ap (digits_value 10) bytes.0)) in
    rw c.from_residual-in_err-number.ensures past

pub returns-then-number-last : goal.returns-then-number-last
returns-then-number-last c =
    let is : is_decimal c.args.text.now ≡ true = search rules in
    let text = c.in_ok-ok.field-0 in
    let bytes = at_ok c.from_utf8.result text _ _ (sym c.ok.ensures.value ∙ c.in_ok-ok.was) c.from_utf8.ensures.cases in
    let value = parsed_value text.now c.parse.result c.in_ok-number.number (ap is_decimal bytes.0 ∙ is) c.parse.ensures.value.0 (sym c.ok-2.ensures.value ∙ c.in_ok-number.was) ∙ ap (digits_value 10) bytes.0 in
    ap (λ (n : ℕ). Some n) value ∙ sym (number_by_value c.args.last c.args.text.now is (omega (arith, value, c.if-number-last.true)))

pub returns-else-number-last : goal.returns-else-number-last
returns-else-number-last c =
    let is : is_decimal c.args.text.now ≡ true = search rules in
    let text = c.in_ok-ok.field-0 in
    let bytes = at_ok c.from_utf8.result text _ _ (sym c.ok.ensures.value ∙ c.in_ok-ok.was) c.from_utf8.ensures.cases in
    let value = parsed_value text.now c.parse.result c.in_ok-number.number (ap is_decimal bytes.0 ∙ is) c.parse.ensures.value.0 (sym c.ok-2.ensures.value ∙ c.in_ok-number.was) ∙ ap (digits_value 10) bytes.0 in
    past_last c.args.last c.args.text.now (omega (arith, value, c.if-number-last.false))
