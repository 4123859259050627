-- The records of a text. A text is pieces laid end to end, with zeros where no header fits into a block, and a record
-- is a full piece, or a first one, middle ones and a last one. The tests at a place come in the order in which they
-- stand here, and the first that fails tells how the text ends.
use Rattle.std.specs.Prelude.{ℕ, ◌+◌, ◌%◌, List, [], ◌∷◌, ◌++◌, length, take, drop, get_or, map}
use Rattle.std.specs.Prelude.{Option, Some, None, nat_lt, ◌==◌, if◌then◌else◌}
use Rattle.std.specs.List.{list_all}
use Rattle.std.specs.Int.{w16, w32, from_le_bytes}
use Rattle.lsm_bytes.specs.Checksum.{crc32c, masked}
use Rattle.lsm_frame.specs.Frames.{filling, start}
pub use Rattle.lsm_frame.specs.declared.ending.Ending.{Ending}
use Rattle.lsm_frame.specs.declared.ending.Ending.TheVariants.{End, Torn, Damaged, Malformed}
use Prim.Native.Nat.{zero, suc}

-- a piece that was read: where it stands, its kind, and its part of the record
pub record Piece : Type 0 where
  pub place : ℕ
  pub kind : ℕ
  pub part : List ℕ

-- what stands at a place: an end, or a whole piece with a right checksum
pub data Here : Type 0 where
  Stops : (ending : Ending) → Here
  Goes : (piece : Piece) → Here

-- the checksum that a piece keeps
abbrev pub kept : List ℕ → ℕ
kept text = from_le_bytes w32 (take 4 text)

-- how long its part is
abbrev pub size : List ℕ → ℕ
size text = from_le_bytes w16 (take 2 (drop 4 text))

-- its kind
abbrev pub kind : List ℕ → ℕ
kind text = get_or text 6 0

-- its part
abbrev pub part : List ℕ → List ℕ
part text = take (size text) (drop 7 text)

-- the checksum that its kind and its part have
abbrev pub found : List ℕ → ℕ
found text = masked (crc32c (kind text ∷ part text))

-- what stands at a place behind an offset in its block, where a header fits into the block: the text ends there, or
-- inside the header; the piece passes the end of its block; the text ends inside its part; its checksum differs
unfoldable pub piece_at : ℕ → ℕ → List ℕ → Here
piece_at place offset text =
    if length text == 0 then Stops End
    else if nat_lt (length text) 7 then Stops (Torn place)
    else if nat_lt 32768 (offset + 7 + size text) then Stops (Malformed place)
    else if nat_lt (length text) (7 + size text) then Stops (Torn place)
    else if kept text == found text then Goes (record { place = place; kind = kind text; part = part text })
    else Stops (Damaged place (kept text) (found text))

-- what stands at a place: where no header fits into the block, its last bytes are zeros, as far as they are there
unfoldable pub here : ℕ → ℕ → List ℕ → Here
here place offset text =
    if list_all (λ (b : ℕ). b == 0) (take (filling offset) text)
    then piece_at (place + filling offset) (start offset) (drop (filling offset) text)
    else Stops (Malformed place)

-- the piece here and those behind it, or the end
abbrev pub ahead : Here → (Piece → List Piece × Ending) → List Piece × Ending
ahead (Stops ending) rest = ([], ending)
ahead (Goes piece) rest = (piece ∷ (rest piece).0, (rest piece).1)

-- the pieces from a place on, and how the text ends, in at most so many steps; a text has fewer pieces than bytes
unfoldable pub pieces : ℕ → ℕ → ℕ → List ℕ → List Piece × Ending
pieces zero place offset text = ([], End)
pieces (suc more) place offset text = ahead (here place offset text) (λ (p : Piece).
    pieces more (p.place + 7 + length p.part) (start offset + 7 + length p.part) (drop (filling offset + 7 + length p.part) text))

-- what a piece makes of the record under way, which is its place and its bytes so far: it ends the record, or goes on
-- with it, or may not stand here
pub data Taken : Type 0 where
  Ends : (made : ℕ × List ℕ) → Taken
  Adds : (made : ℕ × List ℕ) → Taken
  Wrong : Taken

-- a full or a first piece stands outside a record, a middle or a last one inside
unfoldable pub taken : Option (ℕ × List ℕ) → Piece → Taken
taken None p = if p.kind == 1 then Ends (p.place, p.part) else if p.kind == 2 then Adds (p.place, p.part) else Wrong
taken (Some r) p = if p.kind == 3 then Adds (r.0, r.1 ++ p.part) else if p.kind == 4 then Ends (r.0, r.1 ++ p.part) else Wrong

-- an end inside a record is torn, at the record's place
abbrev pub ended : Option (ℕ × List ℕ) → Ending → Ending
ended None ending = ending
ended (Some r) End = Torn r.0
ended (Some r) (Torn place) = Torn r.0
ended (Some r) (Damaged place kept found) = Damaged place kept found
ended (Some r) (Malformed place) = Malformed place

-- the records from a piece on, by what it makes of the record under way
abbrev pub joined_by : Taken → ℕ → List (ℕ × List ℕ) × Ending → (ℕ × List ℕ → List (ℕ × List ℕ) × Ending) → List (ℕ × List ℕ) × Ending
joined_by (Ends made) place next more = (made ∷ next.0, next.1)
joined_by (Adds made) place next more = more made
joined_by Wrong place next more = ([], Malformed place)

-- the records that pieces make behind the record under way, and how the text ends
unfoldable pub joined : Option (ℕ × List ℕ) → List Piece → Ending → List (ℕ × List ℕ) × Ending
joined begun [] ending = ([], ended begun ending)
joined begun (p ∷ ps) ending = joined_by (taken begun p) p.place (joined None ps ending) (λ (r : ℕ × List ℕ). joined (Some r) ps ending)

-- the records of a text, each with its place and its payload, and how the text ends
unfoldable pub records_of : List ℕ → List (ℕ × List ℕ) × Ending
records_of text = joined None (pieces (length text) 0 0 text).0 (pieces (length text) 0 0 text).1

-- the payloads of the records of a text, whichever end it has
abbrev pub front : List ℕ → List (List ℕ)
front text = map (λ (r : ℕ × List ℕ). r.1) (records_of text).0

-- how a text ends
abbrev pub end_of : List ℕ → Ending
end_of text = (records_of text).1

-- where the first piece of a record stands that is added to a text
abbrev pub next_place : List ℕ → ℕ
next_place text = length text + filling (length text % 32768)
