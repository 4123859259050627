use Rattle.lsm_core.specs.Reading.{ShowsTable}
use Rattle.lsm_core.proofs.AskLemmas.{asks_unread, closed_rose}
use Rattle.lsm_core.proofs.opening.read_table.Goals as goal

pub returns-in-Err-clause-asks : goal.returns-in-Err-clause-asks
returns-in-Err-clause-asks g c =
    asks_unread c.args.number (g.D.Disk.seen c.args.disk.now) (g.D.Disk.seen c.close.new.self) c.close.ensures.did
    c.close.ensures.later
    c.close.ensures.refusals (λ d. ShowsTable (g.D.View.View.viewed c.args.view) c.args.number c.args.placed.now.info.session)
    c.in-Err.field-0.why c.read_error.result c.read_error.ensures
    (λ is. closed_rose (g.D.View.View.viewed c.args.view).faults (g.D.View.View.viewed c.in-Err.field-0.view).faults
    (g.D.Disk.seen c.args.disk.now).faults (g.D.Disk.seen c.close.new.self).faults (c.in-Err.ensures.cause is)
    c.close.ensures.faults)
    (λ d shows. c.in-Err.ensures.whole shows.bytes shows.rows c.args.number c.args.placed.now.info.session
    (record { bytes = shows.told; whole = c.requires.whole.whole shows.bytes shows.told }) shows.table)
