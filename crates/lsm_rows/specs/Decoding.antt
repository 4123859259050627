-- The grammar of a batch's text, apart from how it is read, and where bytes leave it.
use Rattle.std.specs.Prelude.{◌≡◌, ℕ, ◌+◌, ◌^◌, ◌<◌, ◌≤◌, List, ◌++◌, length, drop, All, ◌*◌, ◌-◌}
use Rattle.std.specs.List.{flat_map}
use Rattle.std.specs.Int.{w32, w64, to_le_bytes}
use Rattle.lsm_bytes.specs.Faults.{IsFirstFault}
use Rattle.lsm_rows.specs.declared.operations.Op.{Op}
use Rattle.lsm_rows.specs.declared.decoding.BatchError.{BatchError}
use Rattle.lsm_rows.specs.declared.decoding.BatchError.TheVariants.{BadBatch, NoMemory}
use Rattle.lsm_rows.specs.BatchText.{op_text, batch_text}
use Rattle.lsm_rows.specs.Limits.{OpInLimits, InLimits, bytes_limit}
use Rattle.lsm_rows.specs.Pieces.{FaultFrom}

-- the text is that of these operations: one at least, within the limits, the last sequence at most 2^56 - 1
pub record IsBatchText (text : List ℕ) (first : ℕ) (ops : List Op) : Type 0 where
  pub is : text ≡ batch_text first ops
  pub some : 1 ≤ length ops
  pub limits : InLimits ops
  pub last : first + length ops ≤ 2 ^ 56

-- the text is that of some batch
pub record IsSomeBatch (text : List ℕ) : Type 0 where
  pub first : ℕ
  pub ops : List Op
  pub text_is : IsBatchText text first ops

-- the bytes are no batch's text, and this is the first place at which they leave the grammar
pub record IsNoBatch (bytes : List ℕ) (place : ℕ) : Type 0 where
  pub none : ¬ IsSomeBatch bytes
  pub fault : IsFirstFault IsSomeBatch bytes place

-- why bytes gave no batch: they are none; or memory was wanting, which says nothing of them
unfoldable pub IsBad : List ℕ → BatchError → Type 0
IsBad bytes (BadBatch place) = IsNoBatch bytes place
IsBad bytes NoMemory = Unit {0}

-- the text of an operation within its limits, of at most so many bytes
pub record IsOpIn (room : ℕ) (piece : List ℕ) : Type 0 where
  pub op : Op
  pub spelled : piece ≡ op_text op
  pub limits : OpInLimits op
  pub fits : length piece ≤ room

-- such a text stands at a place, and ends at the next
pub record IsOpAt (bytes : List ℕ) (at room : ℕ) (op : Op) (next : ℕ) : Type 0 where
  pub limits : OpInLimits op
  pub fits : length (op_text op) ≤ room
  pub ends : next ≡ at + length (op_text op)
  pub within : next ≤ length bytes
  pub text : drop at bytes ≡ op_text op ++ drop next bytes

-- the same of a piece of a batch's text
unfoldable pub IsBadAt : (List ℕ → Type 0) → List ℕ → ℕ → BatchError → Type 0
IsBadAt Piece bytes at (BadBatch place) = FaultFrom Piece bytes at place
IsBadAt Piece bytes at NoMemory = Unit {0}

-- the eight bytes of a first sequence below 2^56
pub record IsFirst (piece : List ℕ) : Type 0 where
  pub first : ℕ
  pub spelled : piece ≡ to_le_bytes w64 first
  pub below : first < 2 ^ 56

-- the four bytes of a count of at most so many
pub record IsCount (most : ℕ) (piece : List ℕ) : Type 0 where
  pub count : ℕ
  pub spelled : piece ≡ to_le_bytes w32 count
  pub some : 1 ≤ count
  pub high : count ≤ most

-- what stands before the operations: the first sequence, and their count
unfoldable pub header : ℕ → ℕ → List ℕ
header first count = to_le_bytes w64 first ++ to_le_bytes w32 count

-- a header whose sequences and count are within their limits
pub record IsHeader (piece : List ℕ) : Type 0 where
  pub first : ℕ
  pub count : ℕ
  pub spelled : piece ≡ header first count
  pub some : 1 ≤ count
  pub most : count ≤ 1024
  pub last : first + count ≤ 2 ^ 56

-- such a header begins the bytes
pub record IsHeaderAt (bytes : List ℕ) (first count : ℕ) : Type 0 where
  pub some : 1 ≤ count
  pub most : count ≤ 1024
  pub last : first + count ≤ 2 ^ 56
  pub within : 12 ≤ length bytes
  pub text : bytes ≡ header first count ++ drop 12 bytes

-- so many operations of a text with this header stand before a place, and what the count promises has room
pub record IsRead (bytes : List ℕ) (first count done : ℕ) (ops : List Op) (place : ℕ) : Type 0 where
  pub each : All OpInLimits ops
  pub many : length ops ≡ done
  pub ends : place ≡ 12 + length (flat_map op_text ops)
  pub within : place ≤ length bytes
  pub room : place + 2 * (count - done) ≤ bytes_limit
  pub text : bytes ≡ header first count ++ (flat_map op_text ops ++ drop place bytes)
