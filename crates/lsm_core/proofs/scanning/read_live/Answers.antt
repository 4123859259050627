use Rattle.std.specs.Prelude.{◌≡◌}
use Rattle.lsm_core.specs.Reading.{seen_with}
use Rattle.lsm_core.proofs.ReadLemmas.{reads_then, reads_refusal}
use Rattle.lsm_core.proofs.scanning.read_live.Goals as goal

pub returns-in-Ok : goal.returns-in-Ok
returns-in-Ok g c = λ version there.
    reads_then (seen_with (g.D.Disk.seen c.args.disk.now) c.args.home.now version c.args.tables.now)
    (seen_with (g.D.Disk.seen c.ensure_open.new.disk) c.args.home.now version c.ensure_open.new.tables)
    (seen_with (g.D.Disk.seen c.read_open.new.disk) c.args.home.now version c.read_open.new.tables)
    (λ rows value. Unit {0}) (λ rows all. all ≡ rows c.args.number) (λ rows all. all ≡ rows c.args.number)
    c.in-Ok.field-0 c.read_open.result (c.in-Ok.ensures.reads version there)
    (c.read_open.ensures c.args.home.now version c.args.placed.now there) (λ rows all any is. is)

pub returns-in-Err : goal.returns-in-Err
returns-in-Err g c = λ version there.
    reads_refusal (λ rows value. Unit {0}) (λ rows all. all ≡ rows c.args.number)
    (seen_with (g.D.Disk.seen c.args.disk.now) c.args.home.now version c.args.tables.now)
    (seen_with (g.D.Disk.seen c.ensure_open.new.disk) c.args.home.now version c.ensure_open.new.tables) c.in-Err.refused
    (c.in-Err.ensures.reads version there)
