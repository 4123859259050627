use Rattle.std.proofs.Common.{List, subst}
use Rattle.lsm_rows.specs.declared.operations.Op.{Op}
use Rattle.lsm_rows.specs.Rows.{batch_rows}
use Rattle.lsm_memtable.specs.Joining.{AreJoined}
use Rattle.lsm_memtable.proofs.Joins.{bytes_small, memory_joined}
use Rattle.lsm_memtable.proofs.memtable.MemTable.add.Goals as goal

pub grown-requires : goal.grown-requires
grown-requires c = bytes_small c.self.inside.rows c.self.inside.sizes.rows c.self.inside.sizes.bytes c.self.invariant

pub invariant_of-self-2 : goal.invariant_of-self-2
invariant_of-self-2 c =
    memory_joined c.args.first c.self.inside.rows c.push_all.new.rows c.args.batch.now c.self.inside.sizes.rows c.self.inside.sizes.bytes c.in_ok-sizes.sizes.rows c.in_ok-sizes.sizes.bytes c.self.invariant
    (subst (λ (ops : List Op). AreJoined c.self.inside.rows (batch_rows c.args.first ops) c.push_all.new.rows) c.ops.ensures.ops c.in_ok-push_all.ensures.ok)
    c.in_ok-sizes.ensures.rows c.in_ok-sizes.ensures.bytes c.in_ok-sizes.ensures.room
