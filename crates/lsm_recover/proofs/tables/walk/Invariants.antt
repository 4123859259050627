use Rattle.std.proofs.Common.{◌≡◌}
use Rattle.lsm_recover.proofs.WalkedLemmas.{IsWalking}
use Rattle.lsm_recover.proofs.tables.walk.Given as goal

abbrev pub invariant-loop-nth : goal.invariant-loop-nth
invariant-loop-nth g l = record {
  index : l.table.index ≡ l.initial.table.index;
  walking : IsWalking l.initial.table.index l.initial.table.viewed l.table.viewed l.nth l.initial.rows l.rows;
}
