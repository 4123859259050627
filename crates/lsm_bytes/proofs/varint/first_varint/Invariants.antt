use Rattle.std.proofs.Common.{◌≤◌}
use Rattle.lsm_bytes.proofs.Fronts.{IsFront}
use Rattle.lsm_bytes.proofs.varint.first_varint.Given as goal

abbrev pub invariant-loop-index : goal.invariant-loop-index
invariant-loop-index l = record { few : l.index ≤ 9; front : IsFront l.bytes l.index l.number l.unit }
