use Rattle.std.proofs.Common.{length}
use Rattle.ldb_words.proofs.Splitting.{Passed}
use Rattle.ldb_words.proofs.options.options_len.Given as goal

abbrev pub invariant-loop-name : goal.invariant-loop-name
invariant-loop-name l = Passed l.fn.words l.rest

abbrev pub decreases-loop-name : goal.decreases-loop-name
decreases-loop-name l = length l.rest
