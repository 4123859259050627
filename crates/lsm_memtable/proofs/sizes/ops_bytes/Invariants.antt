use Rattle.std.proofs.Common.{◌≡◌, ◌*◌, ◌≤◌, take}
use Rattle.std.specs.List.{sum_by}
use Rattle.lsm_memtable.specs.Sizes.{op_bytes}
use Rattle.lsm_memtable.proofs.sizes.ops_bytes.Given as goal

abbrev pub invariant-loop-op : goal.invariant-loop-op
invariant-loop-op l = (l.bytes ≡ sum_by op_bytes (take l.op-index l.ops)) × (l.bytes ≤ l.op-index * 2097152)
