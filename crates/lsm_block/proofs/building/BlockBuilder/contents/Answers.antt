use Rattle.std.proofs.Common.{arith, []}
use Rattle.lsm_block.proofs.EntryLists.{entries_many}
use Rattle.lsm_block.proofs.building.BlockBuilder.contents.Goals as goal

pub restarts_len-requires : goal.restarts_len-requires
restarts_len-requires c = omega (arith, c.self.invariant.0.small, c.self.invariant.1, entries_many 0 [] c.self.inside.entries.items, c.len.ensures)
