-- How records are laid out in blocks of 32,768 bytes. A record is cut into pieces, each of which lies in one block:
--
--     masked checksum (4 bytes) | length (2 bytes) | kind (1 byte) | part of the record
--
-- Numbers are little endian. The checksum is that of the kind's byte and the part. Where fewer than 7 bytes are left
-- in a block, no header fits: they are zeros, and the record begins in the next block. With exactly 7 bytes left the
-- piece is written, with no part. A block is filled as far as the record goes.
use Rattle.std.specs.Prelude.{ℕ, ◌-◌, ◌%◌, List, [], ◌∷◌, ◌++◌, length, take, drop, replicate}
use Rattle.std.specs.Prelude.{Bool, true, false, if◌then◌else◌, nat_lt}
use Rattle.std.specs.List.{fold}
use Rattle.std.specs.Int.{w16, w32, to_le_bytes}
use Rattle.lsm_bytes.specs.Checksum.{crc32c, masked}
use Prim.Native.Nat.{zero, suc}

-- one piece of a record: its header and its part
unfoldable pub piece : ℕ → List ℕ → List ℕ
piece kind part = to_le_bytes w32 (masked (crc32c (kind ∷ part))) ++ to_le_bytes w16 (length part) ++ kind ∷ part

-- a piece's kind, by whether the record has begun before it and whether it ends with it: full, first, last or middle
abbrev pub kind_of : Bool → Bool → ℕ
kind_of false true = 1
kind_of false false = 2
kind_of true true = 4
kind_of true false = 3

-- how many bytes of a record a block takes behind an offset in it, which is at most 32,761
abbrev pub space : ℕ → ℕ
space offset = 32761 - offset

-- the pieces of the rest of a record behind an offset in a block, in at most so many blocks and one
unfoldable pub cut : ℕ → Bool → ℕ → List ℕ → List ℕ
cut zero begun offset rest = piece (kind_of begun true) rest
cut (suc more) begun offset rest = if nat_lt (space offset) (length rest)
    then piece (kind_of begun false) (take (space offset) rest) ++ cut more true 0 (drop (space offset) rest)
    else piece (kind_of begun true) rest

-- how many zeros end the block before a record that begins behind an offset in it
abbrev pub filling : ℕ → ℕ
filling offset = if nat_lt 32761 offset then 32768 - offset else 0

-- at which offset in a block the record then begins
abbrev pub start : ℕ → ℕ
start offset = if nat_lt 32761 offset then 0 else offset

-- the text of one record behind an offset in a block: the filling, and the record's pieces
unfoldable pub record_text : ℕ → List ℕ → List ℕ
record_text offset payload = replicate (filling offset) 0 ++ cut (length payload) false (start offset) payload

-- a log with one more record
abbrev pub with_record : List ℕ → List ℕ → List ℕ
with_record text payload = text ++ record_text (length text % 32768) payload

-- the log of these records
abbrev pub log_text : List (List ℕ) → List ℕ
log_text records = fold with_record [] records
