use Rattle.std.proofs.Common.{rules, ◌≡◌, ◌∙◌, length, sym, ap, ap₂, subst, arith}
use Rattle.std.specs.String.{string_bytes}
use Rattle.std.proofs.lemmas.List.{length-append}
use Rattle.ldb_words.specs.Words.{is_given, is_right, options_of}
use Rattle.ldb_words.specs.Parts.{LeadsWith}
use Rattle.ldb_words.specs.Reading.{texts}
use Rattle.ldb_words.proofs.Splitting.{all_passed, given_again, passed_more, passed_none, wrong_more, wrong_value}
use Rattle.ldb_words.proofs.options.options_len.Goals.{then-not-is_right-via-then-not-is_right, then-not-is_right-via-else-not-is_right+then-is_given}
use Rattle.ldb_words.proofs.options.options_len.Goals as goal

pub loop-name-init : goal.loop-name-init
loop-name-init c = passed_none c.args.words.now

pub returns-then-not-is_right : goal.returns-then-not-is_right
returns-then-not-is_right c =
    let found = subst (LeadsWith c.loop-name.rest.now) c.in-Some.is c.first_option.ensures in
    let right : is_right (string_bytes found.0, string_bytes found.1) ≡ c.is_right.result =
    sym (c.is_right.ensures ∙ ap₂ (λ a b. is_right (a, b)) found.3 found.4) in
    wrong_more c.args.words.now c.loop-name.rest.now c.in-Some.more.now found.0 found.1 c.loop-name.invariant found.2 found.5
    (elim c.then-not-is_right.branch [
      | then-not-is_right-via-then-not-is_right w ↦ wrong_value _ _ (right ∙ search rules)
      | then-not-is_right-via-else-not-is_right+then-is_given w ↦
          given_again _ _ (ap (λ n. is_given n (options_of (texts c.in-Some.more.now))) (sym found.3) ∙ sym w.is_given.ensures ∙ w.if-is_given.true)
    ])

pub loop-name-preserved : goal.loop-name-preserved
loop-name-preserved c =
    let found = subst (LeadsWith c.loop-name.rest.now) c.in-Some.is c.first_option.ensures in
    let right : is_right (string_bytes found.0, string_bytes found.1) ≡ c.is_right.result =
    sym (c.is_right.ensures ∙ ap₂ (λ a b. is_right (a, b)) found.3 found.4) in
    passed_more c.args.words.now c.loop-name.rest.now c.in-Some.more.now found.0 found.1 c.loop-name.invariant found.2 found.5
    (right ∙ search rules)
    (ap (λ n. is_given n (options_of (texts c.in-Some.more.now))) (sym found.3) ∙ sym c.is_given.ensures ∙ c.if-is_given.false)

pub returns : goal.returns
returns c =
    let none = subst (LeadsWith c.loop-name.rest.now) c.in_default.is c.first_option.ensures in
    all_passed c.args.words.now c.loop-name.rest.now _ c.loop-name.invariant none
    (omega (arith, ap length c.loop-name.invariant.split, length-append c.loop-name.invariant.done c.loop-name.rest.now))
