use Rattle.std.proofs.Common.{◌≡◌, ◌-◌, ◌<◌}
use Rattle.std.specs.Ordering.{nat_cmp}
use Rattle.std.specs.BTreeMap.{IsOrdered}
use Rattle.lsm_version.specs.Levels.{overlaps_from}
use Rattle.lsm_version.specs.Versions.{first_of}
use Rattle.lsm_version.proofs.version.first_of_levels.Given as goal

abbrev pub invariant-loop-level : goal.invariant-loop-level
invariant-loop-level l =
    (first_of (overlaps_from (7 - l.level) l.level l.tables.entries) ≡ first_of (overlaps_from 6 1 l.tables.entries)) × (1 < l.level → IsOrdered nat_cmp l.tables)
