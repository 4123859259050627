use Rattle.lsm_disk.specs.Refusals.{no_file}
use Rattle.lsm_core.specs.Reading.{HasFile}
use Rattle.lsm_core.proofs.AskLemmas.{asks_refused, asks_other, file_there}
use Rattle.lsm_core.proofs.opening.test_size.Goals as goal

pub returns-then-found-len : goal.returns-then-found-len
returns-then-found-len g c =
    asks_other c.args.name c.args.len (g.D.Disk.seen c.args.disk.now) (g.D.Disk.seen c.size.new.self) c.args.path.now
    c.in-Ok.found
    c.in-Ok.ensures.did c.in-Ok.ensures.cause.faults_later c.in-Ok.ensures.cause.refusals_later c.in-Ok.ensures.size
    c.if-found-len.true

pub returns-in-Err : goal.returns-in-Err
returns-in-Err g c =
    asks_refused c.args.name c.args.len (g.D.Disk.seen c.args.disk.now) (g.D.Disk.seen c.size.new.self)
    (HasFile c.args.path.now c.args.len) (no_file c.args.path.now) c.in-Err.why c.file_error.result
    (file_there c.args.path.now c.args.len) c.in-Err.ensures.did c.in-Err.ensures.answer c.in-Err.ensures.cause
    c.file_error.ensures
