use Rattle.std.proofs.Common.{arith}
use Rattle.lsm_opening.proofs.TableNumbers.{last_before, last_behind, last_small, none_before}
use Rattle.lsm_opening.proofs.numbers.behind_tables.Goals as goal

pub overflow_add-result : goal.overflow_add-result
overflow_add-result c = omega (
  arith,
  last_small c.args.version.now c.tables.result.now c.tables.ensures c.in-Some.number.now c.in-Some.field-0-1.now
      c.in-Some.ensures.value c.requires.said,
)

pub returns-in-Some-clause-before : goal.returns-in-Some-clause-before
returns-in-Some-clause-before c = last_before c.args.version.now c.tables.result.now c.tables.ensures c.in-Some.number.now
    c.in-Some.ensures.greatest

pub returns-in-Some-clause-least : goal.returns-in-Some-clause-least
returns-in-Some-clause-least c = last_behind c.args.version.now c.tables.result.now c.tables.ensures c.in-Some.number.now
    c.in-Some.field-0-1.now c.in-Some.ensures.value

pub returns-in-None-clause-before : goal.returns-in-None-clause-before
returns-in-None-clause-before c = none_before c.args.version.now c.tables.result.now c.tables.ensures
    (λ some. let clash = c.in-None.ensures.variant.1 some in absurd (cc))
