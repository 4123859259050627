use Rattle.lsm_names.proofs.NumberLemmas.{HasWritten}
use Rattle.lsm_names.proofs.numbers.padded_decimal.Given as goal

abbrev pub invariant-loop-rest : goal.invariant-loop-rest
invariant-loop-rest l = HasWritten l.number l.rest l.start l.digits

abbrev pub decreases-loop-rest : goal.decreases-loop-rest
decreases-loop-rest l = l.rest
