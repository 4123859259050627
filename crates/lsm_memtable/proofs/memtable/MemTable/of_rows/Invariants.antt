use Rattle.std.proofs.Common.{[], take}
use Rattle.lsm_rows.specs.Contents.{AllBefore}
use Rattle.lsm_memtable.specs.Joining.{AreJoined}
use Rattle.lsm_memtable.specs.RowLimits.{RowsInLimits}
use Rattle.lsm_memtable.proofs.memtable.MemTable.of_rows.Given as goal

abbrev pub invariant-loop-row : goal.invariant-loop-row
invariant-loop-row l = record {
  joined : AreJoined [] (take l.row-index l.rows) l.table;
  past : AllBefore l.next l.table;
  limits : RowsInLimits l.table;
}
