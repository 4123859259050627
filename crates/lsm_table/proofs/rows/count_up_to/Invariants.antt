use Rattle.std.proofs.Common.{◌-◌}
use Rattle.lsm_block.proofs.Sought.{IsBetween}
use Rattle.lsm_table.proofs.AfterKeys.{is_up_to}
use Rattle.lsm_table.proofs.rows.count_up_to.Given as goal

abbrev pub invariant-loop-low : goal.invariant-loop-low
invariant-loop-low l = IsBetween l.entries (is_up_to l.key) l.low l.high

abbrev pub decreases-loop-low : goal.decreases-loop-low
decreases-loop-low l = l.high - l.low
