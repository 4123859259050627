use Rattle.std.proofs.Common.{◌≡◌}
use Rattle.std.specs.List.{flat_map}
use Rattle.lsm_version.specs.Levels.{overlaps_with, overlaps_at}
use Rattle.lsm_version.specs.Versions.{first_of}
use Rattle.lsm_version.proofs.version.first_overlap.Given as goal

abbrev pub invariant-loop-number : goal.invariant-loop-number
invariant-loop-number l = first_of (flat_map (overlaps_with l.level l.tables.entries) l.number-iterator) ≡ first_of (overlaps_at l.level l.tables.entries)
