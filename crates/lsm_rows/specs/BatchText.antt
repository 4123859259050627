-- The text of a batch, as logs keep it: 8 bytes of first sequence and 4 bytes of count, both little endian, and
-- then the operations, one behind another.
use Rattle.std.specs.Prelude.{ℕ, List, ◌∷◌, ◌++◌, length}
use Rattle.std.specs.List.{flat_map}
use Rattle.std.specs.Int.{w32, w64, to_le_bytes}
use Rattle.lsm_bytes.specs.Varint.{varint}
use Rattle.lsm_rows.specs.declared.operations.Op.{Op}
use Rattle.lsm_rows.specs.declared.operations.Op.TheVariants.{Put, Delete}

-- a byte list's length as a varint, and the list
unfoldable pub sized : List ℕ → List ℕ
sized bytes = varint (length bytes) ++ bytes

-- one operation: its kind byte, 1 for a put and 0 for a delete, then the key, and for a put the value
unfoldable pub op_text : Op → List ℕ
op_text (Put key value) = 1 ∷ sized key ++ sized value
op_text (Delete key) = 0 ∷ sized key

-- the operations, of which the first has the sequence `first`
unfoldable pub batch_text : ℕ → List Op → List ℕ
batch_text first ops = to_le_bytes w64 first ++ to_le_bytes w32 (length ops) ++ flat_map op_text ops

-- how long the text is; it is the same for each first sequence
abbrev pub text_len : List Op → ℕ
text_len ops = length (batch_text 0 ops)
