use Rattle.std.proofs.Common.{◌≡◌, length}
use Rattle.ldb_words.specs.Words.{options_of, is_given}
use Rattle.ldb_words.specs.Reading.{texts}
use Rattle.ldb_words.proofs.options.is_given.Given as goal

abbrev pub invariant-loop-first : goal.invariant-loop-first
invariant-loop-first l = is_given l.name (options_of (texts l.rest)) ≡ is_given l.name (options_of (texts l.fn.words))

abbrev pub decreases-loop-first : goal.decreases-loop-first
decreases-loop-first l = length l.rest
