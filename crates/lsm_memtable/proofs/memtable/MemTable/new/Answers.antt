use Rattle.lsm_memtable.proofs.Joins.{memory_none}
use Rattle.lsm_memtable.proofs.memtable.MemTable.new.Goals as goal

pub invariant_of-result : goal.invariant_of-result
invariant_of-result c = memory_none c.new.result c.new.ensures
