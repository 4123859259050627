use Rattle.std.proofs.Common.{◌≡◌}
use Rattle.lsm_memtable.specs.Greatest.{greatest_from}
use Rattle.lsm_memtable.proofs.Totals.{joined}
use Rattle.lsm_memtable.proofs.row_map.RowMap.last_sequence.Given as goal

abbrev pub invariant-loop-versions : goal.invariant-loop-versions
invariant-loop-versions l = greatest_from l.last (joined l.versions-iterator) ≡ greatest_from 0 l.self
