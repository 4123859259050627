use Rattle.std.proofs.Common.{length}
use Rattle.lsm_core.proofs.HandedBack.{IsHandingBack}
use Rattle.lsm_core.proofs.tables.close_all.Given as goal

abbrev pub invariant-loop-number : goal.invariant-loop-number
invariant-loop-number g l =
    IsHandingBack l.initial.tables.entries l.tables.entries (g.D.Disk.seen l.initial.disk) (g.D.Disk.seen l.disk)

abbrev pub decreases-loop-number : goal.decreases-loop-number
decreases-loop-number g l = length l.tables.entries
