use Rattle.std.proofs.Common.{◌≡◌, ℕ, ◌<◌, get_or, length}
use Rattle.lsm_bytes.specs.Checksum.{take_bytes}
use Rattle.lsm_bytes.proofs.checksum.Crc.update.Given as goal

abbrev pub invariant-loop-rest : goal.invariant-loop-rest
invariant-loop-rest l =
    record { same : take_bytes l.register l.rest ≡ take_bytes l.self-inside.register l.bytes; fit : (i : ℕ) → get_or l.rest i 0 < 256 }

abbrev pub decreases-loop-rest : goal.decreases-loop-rest
decreases-loop-rest l = length l.rest
