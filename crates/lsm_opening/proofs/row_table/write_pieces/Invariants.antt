use Rattle.std.proofs.Common.{length, ◌-◌}
use Rattle.lsm_memtable.specs.Newest.{newest_each}
use Rattle.lsm_opening.proofs.RowTables.{WritesOn}
use Rattle.lsm_opening.proofs.row_table.write_pieces.Given as goal

abbrev pub invariant-loop-last : goal.invariant-loop-last
invariant-loop-last g l = WritesOn l.path (g.D.Disk.seen l.initial.disk) (g.D.Disk.seen l.disk) l.initial.flush l.flush

abbrev pub decreases-loop-last : goal.decreases-loop-last
decreases-loop-last g l = length (newest_each l.flush.rows) - l.flush.taken
