use Rattle.std.proofs.Common.{◌≡◌, ◌+◌, ◌<◌, ◌^◌, length}
use Rattle.lsm_bytes.specs.Varint.{varint}
use Rattle.lsm_block.proofs.writing.varint_len.Given as goal

-- so many bytes so far, and those of the rest
abbrev pub invariant-loop-rest : goal.invariant-loop-rest
invariant-loop-rest l = (length (varint l.fn.number) + 1 ≡ l.len + length (varint l.rest)) × (l.rest < 2 ^ 64)

abbrev pub decreases-loop-rest : goal.decreases-loop-rest
decreases-loop-rest l = l.rest
