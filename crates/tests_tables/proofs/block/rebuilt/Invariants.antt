use Rattle.std.proofs.Common.{◌≡◌, take}
use Rattle.tests_tables.proofs.block.rebuilt.Given as goal

abbrev pub invariant-loop-entry : goal.invariant-loop-entry
invariant-loop-entry l = l.builder ≡ take l.entry-index l.block
