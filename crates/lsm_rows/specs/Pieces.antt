-- How the pieces of a text are read: what a piece is, and where bytes stop being one.
use Rattle.std.specs.Prelude.{◌≡◌, ℕ, ◌+◌, ◌<◌, ◌≤◌, List, [], ◌∷◌, ◌++◌, length, take, drop}
use Rattle.lsm_bytes.specs.Varint.{IsVarint, varint}
use Rattle.lsm_rows.specs.BatchText.{sized}

-- the bytes begin with a piece
pub record Begins (Piece : List ℕ → Type 0) (bytes : List ℕ) : Type 0 where
  pub piece : List ℕ
  pub more : List ℕ
  pub joined : bytes ≡ piece ++ more
  pub good : Piece piece

-- The bytes aren't what a reader wants ahead, and this is the first place of the fault: what stands before it
-- goes on to a whole piece, and with the byte that stands there nothing does.
pub record IsFault (Whole Ahead : List ℕ → Type 0) (bytes : List ℕ) (place : ℕ) : Type 0 where
  pub within : place ≤ length bytes
  pub none : ¬ Ahead bytes
  pub before : (more : List ℕ) × Whole (take place bytes ++ more)
  pub here : place < length bytes → (more : List ℕ) → ¬ Ahead (take (place + 1) bytes ++ more)

-- the same of the bytes from a place on
pub record FaultFrom (Piece : List ℕ → Type 0) (bytes : List ℕ) (at place : ℕ) : Type 0 where
  pub skipped : ℕ
  pub placed : place ≡ at + skipped
  pub fault : IsFault Piece (Begins Piece) (drop at bytes) skipped

-- the spelling of a number within these bounds
pub record IsNumberIn (least most : ℕ) (piece : List ℕ) : Type 0 where
  pub n : ℕ
  pub spelled : IsVarint piece n
  pub low : least ≤ n
  pub high : n ≤ most

-- a number within the bounds stands at a place, and ends at the next
pub record IsNumberAt (bytes : List ℕ) (at least most n next : ℕ) : Type 0 where
  pub low : least ≤ n
  pub high : n ≤ most
  pub ends : next ≡ at + length (varint n)
  pub within : next ≤ length bytes
  pub text : drop at bytes ≡ varint n ++ drop next bytes

-- bytes, at most so many, with their length before them
pub record IsSizedIn (most : ℕ) (piece : List ℕ) : Type 0 where
  pub value : List ℕ
  pub spelled : piece ≡ sized value
  pub fits : length value ≤ most

-- such bytes stand at a place, and end at the next
pub record IsSizedAt (bytes : List ℕ) (at most : ℕ) (value : List ℕ) (next : ℕ) : Type 0 where
  pub fits : length value ≤ most
  pub ends : next ≡ at + length (sized value)
  pub within : next ≤ length bytes
  pub text : drop at bytes ≡ sized value ++ drop next bytes

-- the greatest length within a limit that takes at most `room` bytes together with its spelling
pub record IsMost (limit room most : ℕ) : Type 0 where
  pub limited : most ≤ limit
  pub fits : (n : ℕ) → n ≤ most → length (varint n) + n ≤ room
  pub greatest : (n : ℕ) → n ≤ limit → length (varint n) + n ≤ room → n ≤ most

-- one byte within these bounds
pub record IsByteIn (least most : ℕ) (piece : List ℕ) : Type 0 where
  pub b : ℕ
  pub spelled : piece ≡ b ∷ []
  pub byte : b < 256
  pub low : least ≤ b
  pub high : b ≤ most

-- such a byte stands at a place
pub record IsByteAt (bytes : List ℕ) (at least most b : ℕ) : Type 0 where
  pub within : at + 1 ≤ length bytes
  pub byte : b < 256
  pub low : least ≤ b
  pub high : b ≤ most
  pub text : drop at bytes ≡ b ∷ drop (at + 1) bytes
