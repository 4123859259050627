use Rattle.std.proofs.Common.{sym}
use Rattle.lsm_core.proofs.LookLemmas.{opens_nothing, opens_one, Opens}
use Rattle.lsm_core.proofs.ReadLemmas.{opening_refused}
use Rattle.lsm_core.proofs.looking.open_further.Goals as goal

pub returns-in_default : goal.returns-in_default
returns-in_default g c = λ views places.
    opens_nothing c.args.home.now c.args.version.now c.args.place c.args.tables.now places views (g.D.Disk.seen
    c.args.disk.now) (sym c.in_default.ensures)

pub returns-in-Ok : goal.returns-in-Ok
returns-in-Ok g c = λ views places.
    opens_one c.args.home.now c.args.version.now c.args.place c.args.tables.now places views c.in-Some.placed.now (sym
    c.in-Some.ensures)
    (g.D.Disk.seen c.args.disk.now) (g.D.Disk.seen c.open_table.new.disk) (g.D.Disk.seen c.push_table.new.disk) _
    c.in-Ok.table c.in-Ok.table
    c.in-Ok.ensures.asks c.in-Ok.ensures.ok c.push_table.ensures.disk c.push_table.new.tables c.push_table.result
    c.push_table.ensures.ok
    c.push_table.ensures.err

pub returns-in-Err : goal.returns-in-Err
returns-in-Err g c = λ views places.
    opening_refused c.args.home.now c.args.version.now c.args.place.number c.in-Some.placed.now (sym c.in-Some.ensures)
    (g.D.Disk.seen c.args.disk.now) (g.D.Disk.seen c.open_table.new.disk) views
    (Opens c.args.home.now c.args.version.now c.args.place c.args.tables.now places views c.args.tables.now) c.in-Err.refused
    c.in-Err.ensures.asks
