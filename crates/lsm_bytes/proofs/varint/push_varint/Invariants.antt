use Rattle.std.proofs.Common.{◌≡◌, ◌++◌, ◌≤◌, ◌*◌, ◌^◌, ℕ, length, take}
use Rattle.lsm_bytes.specs.Varint.{varint, varint_within}
use Rattle.lsm_bytes.proofs.varint.push_varint.Given as goal

abbrev pub invariant-loop-rest : goal.invariant-loop-rest
invariant-loop-rest l =
    record { fuel : ℕ; within : l.rest ≤ fuel; spelled : take l.len l.spelling ++ varint_within fuel l.rest ≡ varint l.value; small : l.rest * 128 ^ l.len ≤ l.value; few : l.len ≤ 9; size : length l.spelling ≡ 10 }

abbrev pub decreases-loop-rest : goal.decreases-loop-rest
decreases-loop-rest l = l.rest
