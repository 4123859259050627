-- The batch that a text is, as a function. Such a text is read by its own counts and lengths, and the batch that they
-- give is taken where the text is its text.
use Rattle.std.specs.Prelude.{ℕ, ◌+◌, ◌-◌, ◌*◌, ◌^◌, Bool, ◌&&◌, ◌==◌, nat_lt, nat_le, if◌then◌else◌, List, [], ◌∷◌, length, take, drop, Option, Some, None, zero, suc}
use Rattle.std.specs.List.{list_all}
use Rattle.std.specs.Int.{w32, w64, from_le_bytes}
use Rattle.std.specs.Str.{bytes_eq}
use Rattle.lsm_rows.specs.declared.operations.Op.{Op}
use Rattle.lsm_rows.specs.declared.operations.Op.TheVariants.{Put, Delete}
use Rattle.lsm_rows.specs.BatchText.{text_len}
use Rattle.lsm_rows.specs.Limits.{key_len, value_len, key_limit, value_limit, count_limit, bytes_limit}
use Rattle.lsm_wal.specs.Batches.{Logged, text_of}

-- the varint that bytes begin with, and the bytes behind it
abbrev pub number_ahead : List ℕ → ℕ × List ℕ
number_ahead [] = (0, [])
number_ahead (b ∷ bytes) = if nat_lt b 128 then (b, bytes) else (b - 128 + 128 * (number_ahead bytes).0, (number_ahead bytes).1)

-- the byte list that bytes begin with, behind its length, and the bytes behind it
abbrev pub sized_ahead : List ℕ → List ℕ × List ℕ
sized_ahead bytes = (take (number_ahead bytes).0 (number_ahead bytes).1, drop (number_ahead bytes).0 (number_ahead bytes).1)

-- the put that bytes begin with, behind its kind byte, and the bytes behind it
abbrev pub put_ahead : List ℕ × List ℕ → Op × List ℕ
put_ahead key = (Put key.0 (sized_ahead key.1).0, (sized_ahead key.1).1)

-- the operation that bytes begin with, and the bytes behind it
unfoldable pub op_ahead : List ℕ → Op × List ℕ
op_ahead [] = (Delete [], [])
op_ahead (kind ∷ bytes) = if kind == 0 then (Delete (sized_ahead bytes).0, (sized_ahead bytes).1) else put_ahead (sized_ahead bytes)

-- the operations that bytes begin with, so many
abbrev pub ops_ahead : ℕ → List ℕ → List Op
ops_ahead zero bytes = []
ops_ahead (suc more) bytes = (op_ahead bytes).0 ∷ ops_ahead more (op_ahead bytes).1

-- the batch that a text claims to be: 8 bytes of first sequence, 4 bytes of count, and so many operations
unfoldable pub claimed : List ℕ → Logged
claimed text = record { first = from_le_bytes w64 (take 8 text); ops = ops_ahead (from_le_bytes w32 (take 4 (drop 8 text))) (drop 12 text) }

-- an operation's key and value are within their limits
abbrev pub op_fits : Op → Bool
op_fits op = nat_le (key_len op) key_limit && nat_le (value_len op) value_limit

-- a batch that a log takes: some operations within the limits, the last sequence at most 2^56 - 1
unfoldable pub batch_fits : Logged → Bool
batch_fits batch = nat_le 1 (length batch.ops) && nat_le (batch.first + length batch.ops) (2 ^ 56)
    && list_all op_fits batch.ops && nat_le (length batch.ops) count_limit && nat_le (text_len batch.ops) bytes_limit

-- the batch of which this is the text
unfoldable pub batch_of : List ℕ → Option Logged
batch_of text = if batch_fits (claimed text) && bytes_eq text (text_of (claimed text)) then Some (claimed text) else None
