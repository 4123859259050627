use Rattle.std.specs.Prelude.{take, Ok}
use Rattle.lsm_core.specs.Reading.{Reads, seen_with}
use Rattle.lsm_core.specs.Searching.{MeetsAll}
use Rattle.lsm_core.proofs.searching.meet.Given as goal

abbrev pub invariant-loop-place : goal.invariant-loop-place
invariant-loop-place g l =
    Reads (MeetsAll l.version l.key (take l.place-index l.places))
    (seen_with (g.D.Disk.seen l.fn.disk) l.home l.version l.fn.tables) (seen_with (g.D.Disk.seen l.disk) l.home l.version
    l.tables) (Ok l.met)
