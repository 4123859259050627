use Rattle.std.proofs.Common.{◌≡◌, ◌∙◌, sym, ap, rules, arith}
use Rattle.std.specs.String.{string_bytes}
use Rattle.ldb_words.specs.Words.{is_word}
use Rattle.ldb_words.proofs.Asking.{all_more, all_pass, one_fails, some_are_some}
use Rattle.ldb_words.proofs.command.some_words.Goals as goal

pub returns-then-not-is_word : goal.returns-then-not-is_word
returns-then-not-is_word c =
    let test : is_word (string_bytes c.word-item.result) ≡ c.is_word.result = sym (c.is_word.ensures ∙ ap is_word c.as_str.ensures.value) in
    one_fails is_word c.args.words.now c.loop-word.word-index c.word-item.result c.loop-word-test.true c.word-item.is (test ∙ search rules)

pub loop-word-preserved : goal.loop-word-preserved
loop-word-preserved c =
    let test : is_word (string_bytes c.word-item.result) ≡ c.is_word.result = sym (c.is_word.ensures ∙ ap is_word c.as_str.ensures.value) in
    all_more is_word c.args.words.now c.loop-word.word-index c.word-item.result c.loop-word-test.true c.word-item.is
    (test ∙ search rules) c.loop-word.invariant

pub returns-else-is_empty : goal.returns-else-is_empty
returns-else-is_empty c =
    some_are_some is_word c.args.words.now (sym c.is_empty.ensures ∙ c.if-is_empty.false)
    (all_pass is_word c.args.words.now c.loop-word.word-index (omega (arith, c.loop-word-test.false)) c.loop-word.invariant)
