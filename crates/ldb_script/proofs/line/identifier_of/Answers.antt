use Rattle.std.proofs.Common.{◌≡◌, ◌∙◌, sym, rules, false}
use Rattle.std.proofs.lemmas.Str.{IsUtf8-from_ascii}
use Rattle.bk_meta.proofs.NumberLemmas.{at_ok, at_err}
use Rattle.ldb_script.specs.Script.{is_spelled_identifier}
use Rattle.ldb_script.proofs.Identifiers.{spelled_is_ascii, spelled_parses, spelled_as, identifier_is, no_identifier, not_spelled, left_none, left_some}
use Rattle.ldb_script.proofs.line.identifier_of.Goals as goal

pub returns-in_err-ok : goal.returns-in_err-ok
returns-in_err-ok c =
    let refused = at_err c.from_utf8.result _ _ (sym c.ok.ensures.value ∙ c.in_err-ok.was) c.from_utf8.ensures.cases in
    c.from_residual.ensures ∙ no_identifier c.args.word.now (λ id is. refused.1.0 (IsUtf8-from_ascii c.args.word.now (spelled_is_ascii id c.args.word.now is)))

pub returns-in_err-id : goal.returns-in_err-id
returns-in_err-id c =
    let text = c.in_ok-ok.field-0 in
    let bytes = at_ok c.from_utf8.result text _ _ (sym c.ok.ensures.value ∙ c.in_ok-ok.was) c.from_utf8.ensures.cases in
    c.from_residual-in_err-id.ensures
    ∙ no_identifier c.args.word.now (λ id is. left_none c.parse.result id (sym c.ok-2.ensures.value ∙ c.in_err-id.was)
    (spelled_parses id text.now c.parse.result (spelled_as id text.now c.args.word.now bytes.0 is) c.parse.ensures.value.0))

pub returns-then-is_spelling : goal.returns-then-is_spelling
returns-then-is_spelling c = identifier_is c.in_ok-id.id c.args.word.now (search rules)

pub returns-else-is_spelling : goal.returns-else-is_spelling
returns-else-is_spelling c =
    let text = c.in_ok-ok.field-0 in
    let bytes = at_ok c.from_utf8.result text _ _ (sym c.ok.ensures.value ∙ c.in_ok-ok.was) c.from_utf8.ensures.cases in
    let not : is_spelled_identifier c.in_ok-id.id c.args.word.now ≡ false = search rules in
    no_identifier c.args.word.now (λ id is. not_spelled c.in_ok-id.id id c.args.word.now (left_some c.parse.result c.in_ok-id.id id (sym c.ok-2.ensures.value ∙ c.in_ok-id.was)
    (spelled_parses id text.now c.parse.result (spelled_as id text.now c.args.word.now bytes.0 is) c.parse.ensures.value.0)) not is)
