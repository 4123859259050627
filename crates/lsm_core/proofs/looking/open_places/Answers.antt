use Rattle.std.specs.Prelude.{[], List, Ok, Err, take}
use Rattle.std.proofs.Common.{refl, arith, sym, subst, ◌+◌}
use Rattle.lsm_core.specs.Looking.{Leveled}
use Rattle.lsm_core.specs.Reading.{Reads, seen_with}
use Rattle.lsm_core.proofs.LookLemmas.{OpensTo, Opens, opens_none, opens_next, opens_all, refused_closed}
use Rattle.lsm_core.proofs.ReadLemmas.{reads_nothing, reads_then, reads_so}
use Rattle.lsm_core.proofs.looking.open_places.Goals as goal

pub loop-place-init : goal.loop-place-init
loop-place-init g c = λ views.
    subst (λ (l : List Leveled). Reads (OpensTo c.args.version.now c.args.places.now 0)
    (seen_with (g.D.Disk.seen c.args.disk.now) c.args.home.now c.args.version.now views)
    (seen_with (g.D.Disk.seen c.args.disk.now) c.args.home.now c.args.version.now views) (Ok l)) (sym c.new.ensures.items)
    (reads_nothing c.args.home.now c.args.version.now (g.D.Disk.seen c.args.disk.now) (g.D.Disk.seen c.args.disk.now) views
    (OpensTo c.args.version.now c.args.places.now 0) [] refl (omega arith) (omega arith)
    (λ rows t. opens_none c.args.version.now c.args.places.now rows))

pub returns-in-Err : goal.returns-in-Err
returns-in-Err g c = λ views.
    let after = reads_then (seen_with (g.D.Disk.seen c.args.disk.now) c.args.home.now c.args.version.now views)
    (seen_with (g.D.Disk.seen c.loop-place.disk) c.args.home.now c.args.version.now views)
    (seen_with (g.D.Disk.seen c.open_further.new.disk) c.args.home.now c.args.version.now views)
    (OpensTo c.args.version.now c.args.places.now c.loop-place.place-index)
    (Opens c.args.home.now c.args.version.now _ c.loop-place.tables [] views c.open_further.new.tables) (λ rows value. Unit {0})
    c.loop-place.tables (Err c.in-Err.refused) (c.loop-place.invariant views) (c.in-Err.ensures views []) (λ rows y one two.
    tt) in
    refused_closed c.args.home.now c.args.version.now views (g.D.Disk.seen c.args.disk.now) (g.D.Disk.seen
    c.open_further.new.disk)
    (g.D.Disk.seen c.close_looked.new.disk) c.close_looked.ensures.disk (λ rows value. Unit {0}) _ c.in-Err.refused after

pub loop-place-preserved : goal.loop-place-preserved
loop-place-preserved g c = λ views.
    reads_so (λ rows value. OpensTo c.args.version.now c.args.places.now (c.loop-place.place-index + 1) rows
    c.open_further.new.tables)
    (OpensTo c.args.version.now c.args.places.now (c.loop-place.place-index + 1))
    (seen_with (g.D.Disk.seen c.args.disk.now) c.args.home.now c.args.version.now views)
    (seen_with (g.D.Disk.seen c.open_further.new.disk) c.args.home.now c.args.version.now views) c.in_default.field-0
    c.open_further.new.tables
    (reads_then (seen_with (g.D.Disk.seen c.args.disk.now) c.args.home.now c.args.version.now views)
    (seen_with (g.D.Disk.seen c.loop-place.disk) c.args.home.now c.args.version.now views)
    (seen_with (g.D.Disk.seen c.open_further.new.disk) c.args.home.now c.args.version.now views)
    (OpensTo c.args.version.now c.args.places.now c.loop-place.place-index)
    (Opens c.args.home.now c.args.version.now _ c.loop-place.tables (take c.loop-place.place-index c.args.places.now) views
    c.open_further.new.tables)
    (λ rows value. OpensTo c.args.version.now c.args.places.now (c.loop-place.place-index + 1) rows c.open_further.new.tables)
    c.loop-place.tables (Ok c.in_default.field-0) (c.loop-place.invariant views)
    (c.in_default.ensures views (take c.loop-place.place-index c.args.places.now))
    (λ rows y one two. opens_next c.args.version.now c.args.places.now c.loop-place.place-index _ c.loop-place-test.true rows
    c.loop-place.tables
    c.open_further.new.tables one two)) (λ rows is. is)

pub returns : goal.returns
returns g c = λ views.
    reads_so (OpensTo c.args.version.now c.args.places.now c.loop-place.place-index) _
    (seen_with (g.D.Disk.seen c.args.disk.now) c.args.home.now c.args.version.now views)
    (seen_with (g.D.Disk.seen c.loop-place.disk) c.args.home.now c.args.version.now views) c.loop-place.tables
    c.loop-place.tables
    (c.loop-place.invariant views)
    (λ rows is. opens_all c.args.version.now c.args.places.now c.loop-place.place-index c.loop-place-test.false rows
    c.loop-place.tables is)
