use Rattle.std.proofs.Common.{arith, sym}
use Rattle.bk_meta.proofs.NumberLemmas.{number_within}
use Rattle.bk_meta.proofs.reading.read_count.Goals as goal

pub overflow_cast-result : goal.overflow_cast-result
overflow_cast-result c = omega (arith, number_within 10000 c.in-Some.count c.in_ok-digits.digits.now (sym c.in-Some.ensures))

pub returns-in-Some-clause-within : goal.returns-in-Some-clause-within
returns-in-Some-clause-within c = number_within 10000 c.in-Some.count c.in_ok-digits.digits.now (sym c.in-Some.ensures)
