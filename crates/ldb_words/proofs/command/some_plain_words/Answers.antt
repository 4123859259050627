use Rattle.std.proofs.Common.{◌≡◌, ◌∙◌, sym, ap, rules, arith}
use Rattle.std.specs.String.{string_bytes}
use Rattle.ldb_words.specs.Words.{is_plain_word}
use Rattle.ldb_words.proofs.Asking.{all_more, all_pass, one_fails, some_are_some}
use Rattle.ldb_words.proofs.command.some_plain_words.Goals as goal

pub returns-then-not-is_plain_word : goal.returns-then-not-is_plain_word
returns-then-not-is_plain_word c =
    let test : is_plain_word (string_bytes c.word-item.result) ≡ c.is_plain_word.result =
    sym (c.is_plain_word.ensures ∙ ap is_plain_word c.as_str.ensures.value) in
    one_fails is_plain_word c.args.words.now c.loop-word.word-index c.word-item.result c.loop-word-test.true c.word-item.is
    (test ∙ search rules)

pub loop-word-preserved : goal.loop-word-preserved
loop-word-preserved c =
    let test : is_plain_word (string_bytes c.word-item.result) ≡ c.is_plain_word.result =
    sym (c.is_plain_word.ensures ∙ ap is_plain_word c.as_str.ensures.value) in
    all_more is_plain_word c.args.words.now c.loop-word.word-index c.word-item.result c.loop-word-test.true c.word-item.is
    (test ∙ search rules) c.loop-word.invariant

pub returns-else-is_empty : goal.returns-else-is_empty
returns-else-is_empty c =
    some_are_some is_plain_word c.args.words.now (sym c.is_empty.ensures ∙ c.if-is_empty.false)
    (all_pass is_plain_word c.args.words.now c.loop-word.word-index (omega (arith, c.loop-word-test.false)) c.loop-word.invariant)
