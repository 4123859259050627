use Rattle.ldb_words.specs.Words.{is_plain_word}
use Rattle.ldb_words.proofs.Asking.{AllUpTo}
use Rattle.ldb_words.proofs.command.some_plain_words.Given as goal

abbrev pub invariant-loop-word : goal.invariant-loop-word
invariant-loop-word l = AllUpTo is_plain_word l.words l.word-index
