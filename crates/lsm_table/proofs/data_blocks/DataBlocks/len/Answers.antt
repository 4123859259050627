use Rattle.std.proofs.Common.{ap, arith}
use Rattle.lsm_table.specs.Cuts.{size_of}
use Rattle.lsm_table.proofs.Cutting.{size-is}
use Rattle.lsm_table.proofs.data_blocks.DataBlocks.len.Goals as goal

pub overflow_add-result : goal.overflow_add-result
overflow_add-result c = omega (arith, c.self.invariant.small, size-is (record { begun = c.self.inside.begun; index = c.self.inside.index; pending = c.self.inside.pending; place = c.self.inside.place }), c.len.ensures)

pub returns-clause-len : goal.returns-clause-len
returns-clause-len c = omega (arith, size-is (record { begun = c.self.inside.begun; index = c.self.inside.index; pending = c.self.inside.pending; place = c.self.inside.place }), c.len.ensures, ap size_of c.self.view_is)

pub returns-clause-small : goal.returns-clause-small
returns-clause-small c = omega (arith, c.self.invariant.small, size-is (record { begun = c.self.inside.begun; index = c.self.inside.index; pending = c.self.inside.pending; place = c.self.inside.place }), c.len.ensures)
