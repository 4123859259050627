use Rattle.std.proofs.Common.{◌≡◌, ◌+◌, drop}
use Rattle.lsm_block.specs.BlockText.{common}
use Rattle.lsm_block.proofs.entries.common_prefix.Given as goal

abbrev pub invariant-loop-at : goal.invariant-loop-at
invariant-loop-at l = common l.a l.b ≡ l.at + common (drop l.at l.a) (drop l.at l.b)
