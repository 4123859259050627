use Rattle.std.specs.Prelude.{◌≡◌}
use Rattle.lsm_rows.specs.Contents.{newest}
use Rattle.lsm_core.specs.Reading.{seen_with}
use Rattle.lsm_core.proofs.ReadLemmas.{reads_then, reads_refusal}
use Rattle.lsm_core.proofs.searching.look_at.Goals as goal

pub returns-in-Ok : goal.returns-in-Ok
returns-in-Ok g c = λ version there.
    reads_then (seen_with (g.D.Disk.seen c.args.disk.now) c.args.home.now version c.args.tables.now)
    (seen_with (g.D.Disk.seen c.ensure_open.new.disk) c.args.home.now version c.ensure_open.new.tables)
    (seen_with (g.D.Disk.seen c.look_into.new.disk) c.args.home.now version c.look_into.new.tables)
    (λ rows value. Unit {0}) (λ rows row. row ≡ newest c.args.key.now (rows c.args.number)) (λ rows row. row ≡ newest
    c.args.key.now (rows c.args.number))
    c.in-Ok.field-0 c.look_into.result (c.in-Ok.ensures.reads version there)
    (c.look_into.ensures c.args.home.now version c.args.placed.now there) (λ rows row any is. is)

pub returns-in-Err : goal.returns-in-Err
returns-in-Err g c = λ version there.
    reads_refusal (λ rows value. Unit {0}) (λ rows row. row ≡ newest c.args.key.now (rows c.args.number))
    (seen_with (g.D.Disk.seen c.args.disk.now) c.args.home.now version c.args.tables.now)
    (seen_with (g.D.Disk.seen c.ensure_open.new.disk) c.args.home.now version c.ensure_open.new.tables) c.in-Err.refused
    (c.in-Err.ensures.reads version there)
