use Rattle.std.proofs.Common.{◌∙◌, ◌∷◌, sym, ap}
use Rattle.std.proofs.lemmas.Option.{MatchOption-at_none}
use Rattle.ldb_words.specs.Words.{is_option}
use Rattle.ldb_words.proofs.Splitting.{none_in_more, none_in_none, none_in_one}
use Rattle.ldb_words.proofs.options.first_option.Goals as goal

pub returns-in_default : goal.returns-in_default
returns-in_default c = none_in_none c.args.words.now (MatchOption-at_none _ _ c.in_default.is c.split_first.ensures.cases)

pub returns-in_default-split_first : goal.returns-in_default-split_first
returns-in_default-split_first c =
    none_in_one c.args.words.now c.in-Some.rest.now c.in-Some.name.now c.in-Some.ensures.cases.0
    (MatchOption-at_none _ _ c.in_default-split_first.is c.split_first-2.ensures.cases)

pub returns-then-is_option : goal.returns-then-is_option
returns-then-is_option c =
    let both = c.in-Some.ensures.cases.0 ∙ ap (λ r. c.in-Some.name.now ∷ r) c.in-Some-split_first.ensures.cases.0 in (
      c.in-Some.name.now,
      c.in-Some-split_first.value.now,
      both,
      c.as_str-then-is_option.ensures.value,
      c.as_str-then-is_option-2.ensures.value,
      sym (ap is_option c.as_str.ensures.value) ∙ sym c.is_option.ensures ∙ c.if-is_option.true,
    )

pub returns-else-is_option : goal.returns-else-is_option
returns-else-is_option c =
    let both = c.in-Some.ensures.cases.0 ∙ ap (λ r. c.in-Some.name.now ∷ r) c.in-Some-split_first.ensures.cases.0 in
    none_in_more c.args.words.now c.in-Some-split_first.more.now c.in-Some.name.now c.in-Some-split_first.value.now both
    (sym (ap is_option c.as_str.ensures.value) ∙ sym c.is_option.ensures ∙ c.if-is_option.false)
