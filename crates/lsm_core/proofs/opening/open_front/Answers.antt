use Rattle.lsm_disk.specs.Refusals.{no_view}
use Rattle.lsm_core.specs.Reading.{HasFile}
use Rattle.lsm_core.proofs.AskLemmas.{asks_refused, view_there}
use Rattle.lsm_core.proofs.opening.open_front.Goals as goal

pub returns-in-Err-clause-asks : goal.returns-in-Err-clause-asks
returns-in-Err-clause-asks g c =
    asks_refused c.args.name c.args.len (g.D.Disk.seen c.args.disk.now) (g.D.Disk.seen c.open.new.self)
    (HasFile c.args.path.now c.args.len) (no_view c.args.path.now c.args.len) c.in-Err.why c.file_error.result
    (view_there c.args.path.now c.args.len) c.in-Err.ensures.did c.in-Err.ensures.answer c.in-Err.ensures.cause
    c.file_error.ensures
