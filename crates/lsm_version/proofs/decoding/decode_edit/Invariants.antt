use Rattle.std.proofs.Common.{◌-◌, length}
use Rattle.lsm_version.proofs.ReadEdits.{IsReadTo}
use Rattle.lsm_version.proofs.decoding.decode_edit.Given as goal

abbrev pub invariant-loop-at : goal.invariant-loop-at
invariant-loop-at l = IsReadTo l.bytes l.edit l.at l.after

abbrev pub decreases-loop-at : goal.decreases-loop-at
decreases-loop-at l = length l.bytes - l.at
