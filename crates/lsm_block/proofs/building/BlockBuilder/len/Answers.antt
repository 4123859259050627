use Rattle.std.proofs.Common.{List, [], length, ap, ◌∙◌, arith}
use Rattle.lsm_block.specs.declared.entries.Entry.{Entry}
use Rattle.lsm_block.specs.BlockText.{block_text}
use Rattle.lsm_block.proofs.EntryLists.{entries_many}
use Rattle.lsm_block.proofs.Restarts.{block_text-len}
use Rattle.lsm_block.proofs.building.BlockBuilder.len.Goals as goal

pub restarts_len-requires : goal.restarts_len-requires
restarts_len-requires c = omega (arith, c.self.invariant.0.small, c.self.invariant.1, entries_many 0 [] c.self.inside.entries.items, c.len.ensures)

pub returns : goal.returns
returns c =
    omega (arith, c.restarts_len.ensures, c.len.ensures, c.self.invariant.1, block_text-len c.self.inside.entries.items)
    ∙ ap (λ (es : List Entry). length (block_text es)) c.self.view_is
