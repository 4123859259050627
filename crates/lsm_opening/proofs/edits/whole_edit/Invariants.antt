use Rattle.std.proofs.Common.{take}
use Rattle.lsm_opening.proofs.WholeEdits.{AreAddedTo}
use Rattle.lsm_opening.proofs.edits.whole_edit.Given as goal

abbrev pub invariant-loop-place : goal.invariant-loop-place
invariant-loop-place l = AreAddedTo l.version (take l.place-index l.place-items) l.adds
