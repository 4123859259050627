use Rattle.std.specs.Prelude.{◌≡◌}
use Rattle.std.proofs.Common.{refl, arith, sym}
use Rattle.lsm_rows.specs.Contents.{newest}
use Rattle.lsm_core.specs.Reading.{seen_with}
use Rattle.lsm_core.specs.Searching.{MeetsMore}
use Rattle.lsm_core.proofs.ReadLemmas.{reads_nothing, reads_so, reads_refusal}
use Rattle.lsm_core.proofs.SearchLemmas.{meets_above, meets_row, meets_nothing}
use Rattle.lsm_core.proofs.searching.look_further.Goals as goal

pub returns-then-goes_deeper : goal.returns-then-goes_deeper
returns-then-goes_deeper g c =
    reads_nothing c.args.home.now c.args.version.now (g.D.Disk.seen c.args.disk.now) (g.D.Disk.seen c.args.disk.now)
    c.args.tables.now
    (MeetsMore c.args.version.now c.args.key.now c.args.place c.args.met) c.args.met refl (omega arith) (omega arith)
    (λ rows t. meets_above c.args.version.now c.args.key.now c.args.place c.args.met (sym c.if-goes_deeper.ensures) rows)

pub returns-in-Ok : goal.returns-in-Ok
returns-in-Ok g c =
    reads_so (λ rows row. row ≡ newest c.args.key.now (rows c.args.place.number))
    (MeetsMore c.args.version.now c.args.key.now c.args.place c.args.met)
    (seen_with (g.D.Disk.seen c.args.disk.now) c.args.home.now c.args.version.now c.args.tables.now)
    (seen_with (g.D.Disk.seen c.look_at.new.disk) c.args.home.now c.args.version.now c.look_at.new.tables) c.in-Ok.row
    c.better.result
    (c.in-Ok.ensures c.args.version.now (sym c.in-Some.ensures))
    (λ rows is. meets_row c.args.version.now c.args.key.now c.args.place c.args.met c.better.result c.in-Ok.row rows
    c.better.ensures is)

pub returns-in-Err : goal.returns-in-Err
returns-in-Err g c =
    reads_refusal (λ rows row. row ≡ newest c.args.key.now (rows c.args.place.number))
    (MeetsMore c.args.version.now c.args.key.now c.args.place c.args.met)
    (seen_with (g.D.Disk.seen c.args.disk.now) c.args.home.now c.args.version.now c.args.tables.now)
    (seen_with (g.D.Disk.seen c.look_at.new.disk) c.args.home.now c.args.version.now c.look_at.new.tables) c.in-Err.refused
    (c.in-Err.ensures c.args.version.now (sym c.in-Some.ensures))

pub returns-in-None : goal.returns-in-None
returns-in-None g c =
    reads_nothing c.args.home.now c.args.version.now (g.D.Disk.seen c.args.disk.now) (g.D.Disk.seen c.args.disk.now)
    c.args.tables.now
    (MeetsMore c.args.version.now c.args.key.now c.args.place c.args.met) c.args.met refl (omega arith) (omega arith)
    (λ rows t. meets_nothing c.args.version.now c.args.key.now c.args.place (sym c.in-None.ensures) c.args.met rows)
