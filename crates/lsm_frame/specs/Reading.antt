-- What is still to be read of a text, and what one step of a reader makes of it.
use Rattle.std.specs.Prelude.{◌≡◌, ◌+◌, ◌-◌, ◌%◌, ◌<◌, ◌≤◌, ◌==◌, ℕ, List, [], ◌∷◌, ◌++◌, length, take, drop, true, Option, None, Some}
use Rattle.std.specs.List.{list_all}
use Rattle.lsm_frame.specs.Frames.{filling}
use Rattle.lsm_frame.specs.Records.{Ending, Piece, Taken, here, piece_at, pieces, joined}
use Rattle.lsm_frame.specs.Records.Here.{Stops, Goes}
use Rattle.lsm_frame.specs.Records.Taken.{Ends, Adds, Wrong}
use Rattle.lsm_frame.specs.declared.steps.Standing.{Standing}
use Rattle.lsm_frame.specs.declared.steps.Standing.TheVariants.{Nothing, Zeros, Whole}
use Rattle.lsm_frame.specs.declared.steps.Taking.{Taking}
use Rattle.lsm_frame.specs.declared.steps.Taking.TheVariants.{Full, Part, Refused}
use Rattle.lsm_frame.specs.declared.steps.Step.{Step}
use Rattle.lsm_frame.specs.declared.steps.Step.TheVariants.{Over, Record, More}

-- the records from a place on, behind the record under way, and how the text ends
unfoldable pub reading : Option (ℕ × List ℕ) → ℕ → ℕ → List ℕ → List (ℕ × List ℕ) × Ending
reading begun place offset text = joined begun (pieces (length text) place offset text).0 (pieces (length text) place offset text).1

-- what is still to be read of a text from a place on
abbrev pub left : Option (ℕ × List ℕ) → ℕ → List ℕ → List (ℕ × List ℕ) × Ending
left begun at text = reading begun at (at % 32768) (drop at text)

-- the bytes of a text from a place on that lie in its block
abbrev pub in_block : ℕ → List ℕ → List ℕ
in_block at text = take (32768 - at % 32768) (drop at text)

-- the record under way, by where it began and its bytes so far
abbrev pub under_way : Option ℕ → List ℕ → Option (ℕ × List ℕ)
under_way None bytes = None
under_way (Some from) bytes = Some (from, bytes)

-- outside a record there are no bytes yet
abbrev pub IsReady : Option ℕ → List ℕ → Type 0
IsReady None bytes = bytes ≡ []
IsReady (Some from) bytes = Unit {0}

-- the piece at a place where a header fits
abbrev pub piece_here : ℕ → ℕ → ℕ → List ℕ → Piece
piece_here at kind part text = record { place = at; kind = kind; part = take part (drop 7 text) }

-- what stands at a place where a header fits, which is no zeros
abbrev pub IsPiece : ℕ → ℕ → List ℕ → Standing → Type 0
IsPiece at offset text (Nothing ending) = piece_at at offset text ≡ Stops ending
IsPiece at offset text Zeros = ⊥
IsPiece at offset text (Whole kind part) = piece_at at offset text ≡ Goes (piece_here at kind part text)

-- what stands at a place behind an offset in its block: an end; zeros that end the block; or a whole piece in its block
abbrev pub IsStanding : ℕ → ℕ → List ℕ → Standing → Type 0
IsStanding at offset text (Nothing ending) = here at offset text ≡ Stops ending
IsStanding at offset text Zeros = (32761 < offset) × (list_all (λ (b : ℕ). b == 0) (take (filling offset) text) ≡ true)
IsStanding at offset text (Whole kind part) = (offset ≤ 32761) × (here at offset text ≡ Goes (piece_here at kind part text))

-- how far the zeros or the piece lead
abbrev pub IsInside : ℕ → ℕ → Standing → Type 0
IsInside offset size (Nothing ending) = Unit {0}
IsInside offset size Zeros = (0 < size) × (offset + size ≡ 32768)
IsInside offset size (Whole kind part) = 7 + part ≤ size

-- what a piece of this kind at a place makes of the record under way
abbrev pub took : List ℕ → List ℕ → Taking → Taken
took bytes part (Full from) = Ends (from, bytes ++ part)
took bytes part (Part from) = Adds (from, bytes ++ part)
took bytes part Refused = Wrong

-- one step over a text: it comes to an end, or has a record, or more of one
abbrev pub IsStep : Option (ℕ × List ℕ) → ℕ → List ℕ → List ℕ → Step → Type 0
IsStep begun at text bytes (Over ending) = left begun at text ≡ ([], ending)
IsStep begun at text bytes (Record place next) = left begun at text ≡ ((place, bytes) ∷ (left None next text).0, (left None next text).1)
IsStep begun at text bytes (More from next) = left begun at text ≡ left (under_way from bytes) next text

-- how far a step leads over bytes that are there
abbrev pub Leads : ℕ → ℕ → List ℕ → Step → Type 0
Leads at size bytes (Over ending) = Unit {0}
Leads at size bytes (Record place next) = (at + 7 ≤ next) × (next ≤ at + size)
Leads at size bytes (More from next) = (at < next) × (next ≤ at + size) × IsReady from bytes
