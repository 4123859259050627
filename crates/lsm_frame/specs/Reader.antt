-- What is seen of a reader, and what its answers say of the text that its view tells.
use Rattle.std.specs.Prelude.{◌≡◌, ℕ, ◌≤◌, List, length, Option, Some, None, Result, Ok, Err, slice_get}
use Rattle.lsm_disk.specs.Viewed.{Viewed}
use Rattle.lsm_frame.specs.Records.{Ending, records_of, end_of}
use Rattle.lsm_frame.specs.declared.ending.Ending.TheVariants as ending
use Rattle.lsm_frame.specs.declared.next.Next.{Next}
use Rattle.lsm_frame.specs.declared.next.Next.TheVariants as next
use Rattle.lsm_frame.specs.declared.next.FrameError.{FrameError}
use Rattle.lsm_frame.specs.declared.next.FrameError.TheVariants as error

-- what contracts see of a reader
pub record Reader : Type 0 where
  -- what is seen of its view
  pub viewed : Viewed
  -- how many records it gave
  pub given : ℕ
  -- where the record begins that it gave last, 0 where it gave none
  pub place : ℕ
  -- how the text ends, where the reader came to its end
  pub ended : Option Ending

-- the view tells this text, and tells it whole
pub record Tells (viewed : Viewed) (text : List ℕ) : Type 0 where
  pub bytes : viewed.bytes ≡ Some text
  pub whole : length text ≡ viewed.len

-- the ending that an answer names, which is none where it gives a record or a refusal
abbrev pub ending_of : Result Next FrameError → Option Ending
ending_of (Ok (next.Record payload)) = None
ending_of (Ok next.End) = Some ending.End
ending_of (Ok (next.Torn place)) = Some (ending.Torn place)
ending_of (Err error.ReadFault) = None
ending_of (Err (error.Damaged place kept found)) = Some (ending.Damaged place kept found)
ending_of (Err (error.Malformed place)) = Some (ending.Malformed place)
ending_of (Err error.NoMemory) = None

-- the record that an answer gives
abbrev pub record_in : Result Next FrameError → Option (List ℕ)
record_in (Ok (next.Record payload)) = Some payload
record_in (Ok next.End) = None
record_in (Ok (next.Torn place)) = None
record_in (Err e) = None

-- the view has the bytes and the length that it had, and no fewer faults
pub record Stays (before now : Viewed) : Type 0 where
  pub bytes : now.bytes ≡ before.bytes
  pub len : now.len ≡ before.len
  pub faults : before.faults ≤ now.faults

-- the text's record of this number, counted from 0, has this place and this payload
abbrev pub IsRecord : List ℕ → ℕ → ℕ → List ℕ → Type 0
IsRecord text number place payload = slice_get (records_of text).0 number ≡ Some (place, payload)

-- the text has so many records, and ends so
pub record EndsBehind (text : List ℕ) (count : ℕ) (ending : Ending) : Type 0 where
  pub records : length (records_of text).0 ≡ count
  pub end : end_of text ≡ ending
