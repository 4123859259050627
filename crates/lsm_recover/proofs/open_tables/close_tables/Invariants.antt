use Rattle.std.proofs.Common.{◌≡◌, ◌≤◌, length}
use Rattle.lsm_recover.proofs.open_tables.close_tables.Given as goal

abbrev pub invariant-loop-table : goal.invariant-loop-table
invariant-loop-table g l = record {
  told : (g.D.Disk.seen l.disk).told ≡ (g.D.Disk.seen l.initial.disk).told;
  faults_later : (g.D.Disk.seen l.initial.disk).faults ≤ (g.D.Disk.seen l.disk).faults;
  refusals_later : (g.D.Disk.seen l.initial.disk).refusals ≤ (g.D.Disk.seen l.disk).refusals;
}

abbrev pub decreases-loop-table : goal.decreases-loop-table
decreases-loop-table g l = length l.tables
