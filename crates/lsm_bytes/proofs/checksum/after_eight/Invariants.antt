use Rattle.std.proofs.Common.{◌≡◌, ◌-◌, ◌*◌, ◌/◌, ◌^◌}
use Rattle.lsm_bytes.specs.Checksum.{divide_bits}
use Rattle.lsm_bytes.proofs.checksum.after_eight.Given as goal

abbrev pub invariant-loop-table : goal.invariant-loop-table
invariant-loop-table l = l.after ≡ divide_bits (8 * l.table) (l.mixed / 2 ^ (64 - 8 * l.table))
