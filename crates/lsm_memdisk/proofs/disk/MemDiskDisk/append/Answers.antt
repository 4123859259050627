use Rattle.std.proofs.Common.{ap, sym, length, arith}
use Rattle.std.proofs.lemmas.List.{take_all}
use Rattle.lsm_memdisk.specs.Disk.{Shown}
use Rattle.lsm_memdisk.proofs.Failing.{appends_failed_at}
use Rattle.lsm_memdisk.proofs.disk.MemDiskDisk.append.Goals as goal

pub returns-in-Some-Done-clause-did : goal.returns-in-Some-Done-clause-did
returns-in-Some-Done-clause-did c =
    let call = c.append-done in
    let bytes = c.args.bytes.now in
    appends_failed_at c.args.path.now bytes bytes (length bytes) c.self.inside.volume c.args.self.now.disk call.new.self c.fail.new.volume call.result c.fail.result c.fail.ensures.answer (ap (λ (m : Shown). m.disk) c.self.view_is)
    (sym (take_all (length bytes) bytes (omega arith))) call.ensures.did call.ensures.answer c.fail.ensures.told
