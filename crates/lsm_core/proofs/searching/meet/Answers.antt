use Rattle.std.specs.Prelude.{[], None, take, Ok, Err}
use Rattle.std.proofs.Common.{refl, arith, ◌+◌}
use Rattle.lsm_core.specs.Reading.{seen_with}
use Rattle.lsm_core.specs.Searching.{MeetsAll, MeetsMore}
use Rattle.lsm_core.proofs.ReadLemmas.{reads_nothing, reads_then, reads_refusal}
use Rattle.lsm_core.proofs.SearchLemmas.{meets_none, meets_next}
use Rattle.lsm_core.proofs.searching.meet.Goals as goal

pub loop-place-init : goal.loop-place-init
loop-place-init g c =
    reads_nothing c.args.home.now c.args.version.now (g.D.Disk.seen c.args.disk.now) (g.D.Disk.seen c.args.disk.now)
    c.args.tables.now
    (MeetsAll c.args.version.now c.args.key.now []) None refl (omega arith) (omega arith)
    (λ rows t. meets_none c.args.version.now c.args.key.now rows)

pub returns-in-Err : goal.returns-in-Err
returns-in-Err g c =
    reads_refusal (MeetsAll c.args.version.now c.args.key.now (take (c.loop-place.place-index + 1) c.args.places.now))
    (MeetsAll c.args.version.now c.args.key.now c.args.places.now)
    (seen_with (g.D.Disk.seen c.args.disk.now) c.args.home.now c.args.version.now c.args.tables.now)
    (seen_with (g.D.Disk.seen c.look_further.new.disk) c.args.home.now c.args.version.now c.look_further.new.tables)
    c.in-Err.refused
    (reads_then (seen_with (g.D.Disk.seen c.args.disk.now) c.args.home.now c.args.version.now c.args.tables.now)
    (seen_with (g.D.Disk.seen c.loop-place.disk) c.args.home.now c.args.version.now c.loop-place.tables)
    (seen_with (g.D.Disk.seen c.look_further.new.disk) c.args.home.now c.args.version.now c.look_further.new.tables)
    (MeetsAll c.args.version.now c.args.key.now (take c.loop-place.place-index c.args.places.now))
    (MeetsMore c.args.version.now c.args.key.now _ c.loop-place.met)
    (MeetsAll c.args.version.now c.args.key.now (take (c.loop-place.place-index + 1) c.args.places.now)) c.loop-place.met
    (Err c.in-Err.refused) c.loop-place.invariant c.in-Err.ensures
    (λ rows y first second. meets_next c.args.version.now c.args.key.now c.args.places.now c.loop-place.place-index _ rows
    c.loop-place.met y
    c.loop-place-test.true first second))

pub loop-place-preserved : goal.loop-place-preserved
loop-place-preserved g c =
    reads_then (seen_with (g.D.Disk.seen c.args.disk.now) c.args.home.now c.args.version.now c.args.tables.now)
    (seen_with (g.D.Disk.seen c.loop-place.disk) c.args.home.now c.args.version.now c.loop-place.tables)
    (seen_with (g.D.Disk.seen c.look_further.new.disk) c.args.home.now c.args.version.now c.look_further.new.tables)
    (MeetsAll c.args.version.now c.args.key.now (take c.loop-place.place-index c.args.places.now))
    (MeetsMore c.args.version.now c.args.key.now _ c.loop-place.met)
    (MeetsAll c.args.version.now c.args.key.now (take (c.loop-place.place-index + 1) c.args.places.now))
    c.loop-place.met (Ok c.in-Ok.now) c.loop-place.invariant c.in-Ok.ensures
    (λ rows y first second. meets_next c.args.version.now c.args.key.now c.args.places.now c.loop-place.place-index _ rows
    c.loop-place.met y
    c.loop-place-test.true first second)
