use Rattle.std.proofs.Common.{◌≡◌, ◌++◌}
use Rattle.lsm_version.specs.Orders.{places_from}
use Rattle.lsm_version.proofs.TableMaps.{tables_of}
use Rattle.lsm_version.proofs.orders.push_levels.Given as goal

abbrev pub invariant-loop-level : goal.invariant-loop-level
invariant-loop-level l = l.out ++ places_from (tables_of l.tables.entries) l.level ≡ l.fn.out ++ places_from (tables_of l.tables.entries) l.first
