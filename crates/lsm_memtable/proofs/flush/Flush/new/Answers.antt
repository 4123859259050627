use Rattle.std.proofs.Common.{arith}
use Rattle.lsm_memtable.proofs.NewestRows.{some_newest}
use Rattle.lsm_memtable.proofs.flush.Flush.new.Goals as goal

pub returns-clause-left : goal.returns-clause-left
returns-clause-left c = omega (arith, some_newest c.args.rows c.requires, c.new.ensures.taken)
