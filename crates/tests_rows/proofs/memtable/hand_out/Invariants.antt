use Rattle.std.proofs.Common.{◌<◌, length}
use Rattle.lsm_memtable.specs.Newest.{newest_each}
use Rattle.tests_rows.proofs.memtable.hand_out.Given as goal

abbrev pub invariant-loop-pieces : goal.invariant-loop-pieces
invariant-loop-pieces l = l.flush.taken < length (newest_each l.flush.rows)
