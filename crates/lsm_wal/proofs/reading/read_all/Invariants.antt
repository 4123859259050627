use Rattle.std.proofs.Common.{◌-◌}
use Rattle.lsm_wal.proofs.Following.{Going}
use Rattle.lsm_wal.proofs.reading.read_all.Given as goal

abbrev pub invariant-loop-batches : goal.invariant-loop-batches
invariant-loop-batches g l = Going l.fn.reader l.reader l.fn.expected l.next l.batches

abbrev pub decreases-loop-batches : goal.decreases-loop-batches
decreases-loop-batches g l = l.reader.viewed.len - l.reader.given
