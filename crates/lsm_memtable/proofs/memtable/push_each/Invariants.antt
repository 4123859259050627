use Rattle.std.proofs.Common.{◌≡◌, ◌+◌, take}
use Rattle.lsm_rows.specs.Rows.{batch_rows}
use Rattle.lsm_memtable.specs.Order.{AreInOrder}
use Rattle.lsm_memtable.specs.Joining.{IsGrown}
use Rattle.lsm_memtable.proofs.memtable.push_each.Given as goal

abbrev pub invariant-loop-op : goal.invariant-loop-op
invariant-loop-op l = (l.sequence ≡ l.first + l.op-index) × IsGrown l.first l.fn.rows (batch_rows l.first (take l.op-index l.ops)) l.rows × AreInOrder l.rows
