use Rattle.std.proofs.Common.{arith}
use Rattle.lsm_table.proofs.Indexes.{told_once}
use Rattle.lsm_table.proofs.index.len_told.Goals as goal

pub returns-then-at-place-clause-none : goal.returns-then-at-place-clause-none
returns-then-at-place-clause-none c = λ len tells. absurd (omega (arith, c.if-at-place.true, told_once c.args.value.now c.in-Some.at c.args.place c.in-Some.len len c.in-Some.ensures.some tells))
