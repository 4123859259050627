use Rattle.ldb_script.specs.Run.{Stream}
use Rattle.ldb_script.proofs.Answered.{clocked, unclocked, told_of}
use Rattle.ldb_script.specs.Tools.{tools}
use Rattle.ldb_script.proofs.answering.answer_create.Goals as goal

pub returns-in-Ok-clause-done : goal.returns-in-Ok-clause-done
returns-in-Ok-clause-done g c origin outcome was =
    let before : Stream = record { bytes = g.C.Clock.left c.args.clock.now; faults = g.C.Clock.faults c.args.clock.now } in
    let after : Stream = record { bytes = g.C.Clock.left c.now.new.self; faults = g.C.Clock.faults c.now.new.self } in
    clocked origin c.args.store.now c.create_opened.new.store c.args.backups.now c.create_opened.new.backups before after outcome was c.in-Ok.now c.in-Ok.ensures.drawn c.create_opened.result
    (c.create_opened.ensures.done origin before after outcome after.bytes was.store was.backups (told_of origin (tools c.args.store.now c.args.backups.now before) outcome was))

pub returns-in-Err-clause-done : goal.returns-in-Err-clause-done
returns-in-Err-clause-done g c origin outcome was =
    let before : Stream = record { bytes = g.C.Clock.left c.args.clock.now; faults = g.C.Clock.faults c.args.clock.now } in
    let after : Stream = record { bytes = g.C.Clock.left c.now.new.self; faults = g.C.Clock.faults c.now.new.self } in
    unclocked origin c.args.store.now c.args.backups.now before after outcome was c.in-Err.ensures.kept c.in-Err.ensures.cause.failed
