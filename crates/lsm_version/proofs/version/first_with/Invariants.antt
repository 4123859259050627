use Rattle.std.proofs.Common.{◌≡◌}
use Rattle.lsm_version.specs.Levels.{overlaps_with}
use Rattle.lsm_version.specs.Versions.{first_of}
use Rattle.lsm_version.proofs.version.first_with.Given as goal

abbrev pub invariant-loop-other : goal.invariant-loop-other
invariant-loop-other l =
    first_of (overlaps_with l.placed.level l.other-iterator (l.number, l.placed)) ≡ first_of (overlaps_with l.placed.level l.tables.entries (l.number, l.placed))
