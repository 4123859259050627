use Rattle.std.proofs.Common.{length}
use Rattle.lsm_core.proofs.LookLemmas.{IsClosing}
use Rattle.lsm_core.proofs.looking.close_looked.Given as goal

abbrev pub invariant-loop-table : goal.invariant-loop-table
invariant-loop-table g l = IsClosing l.initial.items.items l.items.items (g.D.Disk.seen l.initial.disk) (g.D.Disk.seen l.disk)

abbrev pub decreases-loop-table : goal.decreases-loop-table
decreases-loop-table g l = length l.items.items
