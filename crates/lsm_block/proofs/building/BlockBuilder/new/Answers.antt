use Rattle.std.proofs.Common.{[], length, ℕ, ap, sym}
use Rattle.lsm_block.proofs.EntryLists.{entries-nil}
use Rattle.lsm_block.proofs.Keys.{AreEntries-nil}
use Rattle.lsm_block.proofs.building.BlockBuilder.new.Goals as goal

pub invariant_of-result : goal.invariant_of-result
invariant_of-result c = rw c.new.ensures.items (AreEntries-nil, ap (length {A = ℕ}) (sym (entries-nil 0 [])))
