use Rattle.std.proofs.Common.{◌≡◌, ap, sym, subst, ◌∙◌, Result, Ok, Err, Some, None}
use Rattle.std.specs.Result.{MatchResult, result_ok}
use Rattle.std.specs.Str.{IsAscii}
use Rattle.std.proofs.lemmas.Str.{IsUtf8-from_ascii}
use Rattle.lsm_names.proofs.NumberLemmas.{parsed, padded_is_ascii}
use Rattle.lsm_names.proofs.numbers.read_decimal.Goals as goal

-- the fact of the variant that `ok` left
at_ok : {T E : Type 0} (r : Result T E) (t : T) (P : T → Type 0) (Q : E → Type 0) → result_ok r ≡ Some t → MatchResult r P Q → P t
at_ok (Ok s) t P Q left fact = let same : s ≡ t = cc in subst P same fact
at_ok (Err e) t P Q left fact = absurd (cc)

at_err : {T E : Type 0} (r : Result T E) (P : T → Type 0) (Q : E → Type 0) → result_ok r ≡ None → MatchResult r P Q → (e : E) × Q e
at_err (Ok s) P Q left fact = absurd (cc)
at_err (Err e) P Q left fact = (e, fact)

-- such digits are text
pub returns-in_err-ok : goal.returns-in_err-ok
returns-in_err-ok c least number small same =
    let ascii : IsAscii c.args.digits.now = subst IsAscii (sym same) (padded_is_ascii least number small) in
    let refused = at_err c.from_utf8.result _ _ (sym c.ok.ensures.value ∙ c.in_err-ok.was) c.from_utf8.ensures.cases in
    absurd (refused.1.0 (IsUtf8-from_ascii c.args.digits.now ascii))

pub returns : goal.returns
returns c least number small same =
    let text = c.in_ok-ok.field-0 in
    let bytes = at_ok c.from_utf8.result text _ _ (sym c.ok.ensures.value ∙ c.in_ok-ok.was) c.from_utf8.ensures.cases in
    let value = parsed least number text.now c.parse.result small (bytes.0 ∙ same) c.parse.ensures.value.0 in
    c.ok-2.ensures.value ∙ ap result_ok value
