use Rattle.std.proofs.Common.{◌≡◌, ◌+◌, length}
use Rattle.std.specs.List.{sum_by}
use Rattle.lsm_memtable.specs.Sizes.{row_bytes}
use Rattle.lsm_memtable.proofs.Totals.{joined}
use Rattle.lsm_memtable.proofs.row_map.RowMap.sizes.Given as goal

abbrev pub invariant-loop-versions : goal.invariant-loop-versions
invariant-loop-versions l = (l.rows + length (joined l.versions-iterator) ≡ length l.self) × (l.bytes + sum_by row_bytes (joined l.versions-iterator) ≡ sum_by row_bytes l.self)
