use Rattle.std.proofs.Common.{All, take}
use Rattle.lsm_table.specs.Opening.{TellsBlock}
use Rattle.lsm_table.proofs.index.tell_blocks.Given as goal

abbrev pub invariant-loop-entry : goal.invariant-loop-entry
invariant-loop-entry l = All TellsBlock (take l.entry-index l.entries)
