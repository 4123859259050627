use Rattle.std.proofs.Common.{◌-◌}
use Rattle.lsm_frame.proofs.Going.{Going}
use Rattle.lsm_frame.proofs.found.read_record.Given as goal

abbrev pub invariant-loop-at : goal.invariant-loop-at
invariant-loop-at g l = Going (g.V.View.viewed l.fn.view) (g.V.View.viewed l.view) l.loaded.buffer.items l.loaded.base l.from l.at l.begun l.payload

abbrev pub decreases-loop-at : goal.decreases-loop-at
decreases-loop-at g l = l.len - l.at
