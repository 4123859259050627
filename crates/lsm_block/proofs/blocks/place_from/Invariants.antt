use Rattle.std.proofs.Common.{◌-◌}
use Rattle.lsm_block.proofs.Sought.{IsBetween, is_before}
use Rattle.lsm_block.proofs.blocks.place_from.Given as goal

abbrev pub invariant-loop-low : goal.invariant-loop-low
invariant-loop-low l = IsBetween l.entries (is_before l.key) l.low l.high

abbrev pub decreases-loop-low : goal.decreases-loop-low
decreases-loop-low l = l.high - l.low
