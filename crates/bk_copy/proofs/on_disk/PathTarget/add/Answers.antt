use Rattle.bk_copy.proofs.Files.{file_gains, file_stops}
use Rattle.bk_copy.proofs.on_disk.PathTarget.add.Goals as goal

pub returns-in-Ok-clause-gained : goal.returns-in-Ok-clause-gained
returns-in-Ok-clause-gained g c first text gained =
    file_gains c.args.self.now (g.B.Disk.seen first) (g.B.Disk.seen c.args.holder.now) (g.B.Disk.seen c.append.new.self) text c.args.piece.now gained
    c.in-Ok.ensures.did c.in-Ok.ensures.cause

pub returns-in-Err-clause-stopped : goal.returns-in-Err-clause-stopped
returns-in-Err-clause-stopped g c first text gained =
    file_stops c.args.self.now (g.B.Disk.seen first) (g.B.Disk.seen c.args.holder.now) (g.B.Disk.seen c.append.new.self) text c.args.piece.now gained
    c.in-Err.why c.in-Err.ensures.did c.in-Err.ensures.cause
