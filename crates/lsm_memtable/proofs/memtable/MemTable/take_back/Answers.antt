use Rattle.lsm_memtable.proofs.Joins.{sum_small, memory_below}
use Rattle.lsm_memtable.proofs.TakingBack.{is_below}
use Rattle.lsm_memtable.proofs.memtable.MemTable.take_back.Goals as goal

pub sizes-self-inside-requires : goal.sizes-self-inside-requires
sizes-self-inside-requires c = sum_small (is_below c.args.first) c.self.inside.rows c.take_back.new.self c.self.inside.sizes.rows c.self.inside.sizes.bytes c.self.invariant c.take_back.ensures.rows

pub invariant_of-self : goal.invariant_of-self
invariant_of-self c =
    memory_below c.args.first c.self.inside.rows c.take_back.new.self c.self.inside.sizes.rows c.self.inside.sizes.bytes c.sizes-self-inside.result.rows c.sizes-self-inside.result.bytes c.self.invariant c.take_back.ensures.rows
    c.take_back.ensures.order c.sizes-self-inside.ensures.rows c.sizes-self-inside.ensures.bytes
