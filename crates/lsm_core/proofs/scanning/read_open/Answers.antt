use Rattle.std.proofs.Common.{◌≡◌, refl, arith}
use Rattle.lsm_core.proofs.ReadLemmas.{looked_ok, looking_refused}
use Rattle.lsm_core.proofs.scanning.read_open.Goals as goal

pub returns-in-Ok : goal.returns-in-Ok
returns-in-Ok g c = λ home version placed there.
    looked_ok home version (g.D.Disk.seen c.args.disk.now) (g.D.Disk.seen c.args.disk.now) c.args.tables.now c.args.number
    placed there
    (λ rows all. all ≡ rows) c.rows.new.self c.rows.result c.rows.ensures refl (omega arith) (omega arith) c.in-Ok.rows c.in-Ok.is

pub returns-in-Err : goal.returns-in-Err
returns-in-Err g c = λ home version placed there.
    looking_refused home version c.args.number placed there (g.D.Disk.seen c.args.disk.now) (g.D.Disk.seen c.refuse.new.disk)
    c.args.tables.now (λ rows all. all ≡ rows) c.rows.new.self c.refuse.new.tables c.rows.result c.rows.ensures c.in-Err.fault
    c.refuse.result
    c.in-Err.is c.refuse.ensures.answer c.refuse.ensures.closes
