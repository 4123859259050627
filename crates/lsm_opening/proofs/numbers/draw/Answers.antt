use Rattle.std.proofs.Common.{refl, arith}
use Rattle.lsm_opening.proofs.TableNumbers.{too_few}
use Rattle.lsm_opening.proofs.numbers.draw.Goals as goal

pub returns-then-first-adding-clause-err : goal.returns-then-first-adding-clause-err
returns-then-first-adding-clause-err c = (
  refl,
  too_few c.args.found.now.next c.behind_tables.result c.max-first.result _ c.args.found.now.version
      c.behind_tables.ensures.least c.max-first.ensures
      (omega (arith, c.if-first-adding.true, c.tables_of-adding.ensures.tables)),
)
