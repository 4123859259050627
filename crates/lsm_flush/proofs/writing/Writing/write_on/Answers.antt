use Rattle.lsm_flush.proofs.Adds.{refused_add}
use Rattle.lsm_flush.proofs.writing.Writing.write_on.Goals as goal

pub returns-in-Err-clause-err : goal.returns-in-Err-clause-err
returns-in-Err-clause-err g c =
    refused_add c.args.path.now c.ahead_bytes.result.now (g.D.Disk.seen c.args.disk.now) (g.D.Disk.seen c.append.new.self)
    c.args.self.now c.take.new.self c.in-Err.why c.refusal-in-Err.result c.in-Ok.ensures.ok c.refusal-in-Err.ensures
    c.in-Err.ensures.did c.in-Err.ensures.answer
