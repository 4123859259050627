use Rattle.std.specs.Prelude.{Ok}
use Rattle.lsm_core.specs.Reading.{Views, Reads, seen_with}
use Rattle.lsm_core.proofs.LookLemmas.{OpensTo}
use Rattle.lsm_core.proofs.looking.open_places.Given as goal

abbrev pub invariant-loop-place : goal.invariant-loop-place
invariant-loop-place g l = (views : Views) → Reads (OpensTo l.version l.places l.place-index)
    (seen_with (g.D.Disk.seen l.fn.disk) l.home l.version views) (seen_with (g.D.Disk.seen l.disk) l.home l.version views)
    (Ok l.tables)
