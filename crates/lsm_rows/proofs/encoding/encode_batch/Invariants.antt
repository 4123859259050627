use Rattle.std.proofs.Common.{◌≡◌, ◌++◌, length, take}
use Rattle.std.specs.List.{flat_map}
use Rattle.std.specs.Int.{w32, w64, to_le_bytes}
use Rattle.lsm_rows.specs.BatchText.{op_text}
use Rattle.lsm_rows.proofs.encoding.encode_batch.Given as goal

abbrev pub invariant-loop-op : goal.invariant-loop-op
invariant-loop-op l = l.text ≡ to_le_bytes w64 l.first ++ to_le_bytes w32 (length l.op-items) ++ flat_map op_text (take l.op-index l.op-items)
