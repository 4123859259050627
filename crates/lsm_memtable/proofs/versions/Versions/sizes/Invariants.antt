use Rattle.std.proofs.Common.{◌≡◌, take}
use Rattle.std.specs.List.{sum_by}
use Rattle.lsm_memtable.specs.Sizes.{row_bytes}
use Rattle.lsm_memtable.proofs.versions.Versions.sizes.Given as goal

abbrev pub invariant-loop-row : goal.invariant-loop-row
invariant-loop-row l = l.bytes ≡ sum_by row_bytes (take l.row-index l.self-inside.rows.items)
