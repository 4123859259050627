use Rattle.std.proofs.Common.{◌≡◌, take}
use Rattle.lsm_bytes.specs.Checksum.{take_bytes}
use Rattle.lsm_bytes.proofs.checksum.after_each.Given as goal

abbrev pub invariant-loop-byte : goal.invariant-loop-byte
invariant-loop-byte l = l.after ≡ take_bytes l.register (take l.byte-index l.bytes)
