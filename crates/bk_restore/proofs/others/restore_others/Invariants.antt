use Rattle.std.proofs.Common.{◌≡◌, take}
use Rattle.bk_restore.specs.Causes.{AreLater}
use Rattle.bk_restore.proofs.Going.{Going}
use Rattle.bk_restore.proofs.others.restore_others.Given as goal

abbrev pub invariant-loop-file : goal.invariant-loop-file
invariant-loop-file g l = record {
  told : (g.B.Disk.seen l.disk).told ≡ (g.B.Disk.seen l.fn.disk).told;
  disk : AreLater (g.B.Disk.seen l.fn.disk) (g.B.Disk.seen l.disk);
  dest : AreLater (g.T.Dest.seen l.fn.dest).disk (g.T.Dest.seen l.dest).disk;
  going : Going l.id (g.B.Disk.seen l.fn.disk).told (take l.file-index l.files) (g.T.Dest.seen l.fn.dest) (g.T.Dest.seen l.dest);
  leads : (first : g.row.T.Denot) → g.T.Dest.leads first l.fn.dest → g.T.Dest.leads first l.dest;
}
