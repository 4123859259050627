use Rattle.std.proofs.Common.{◌≡◌, ◌++◌}
use Rattle.lsm_version.proofs.PlaceOrders.{places_at}
use Rattle.lsm_version.proofs.orders.push_level.Given as goal

abbrev pub invariant-loop-number : goal.invariant-loop-number
invariant-loop-number l = l.out ++ places_at l.level l.number-iterator ≡ l.fn.out ++ places_at l.level l.tables.entries
