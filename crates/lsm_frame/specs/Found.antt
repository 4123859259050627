-- What a reader finds where it looks for a record, and where it stands between two records.
use Rattle.std.specs.Prelude.{◌≡◌, ◌+◌, ◌*◌, ◌≤◌, ℕ, List, [], ◌∷◌, ◌++◌, length, Option, None, Some}
use Rattle.lsm_disk.specs.Viewed.{Viewed}
use Rattle.lsm_frame.specs.Records.{Ending, records_of}
use Rattle.lsm_frame.specs.Reading.{left}
use Rattle.lsm_frame.specs.Loaded.{Loads}
use Rattle.lsm_frame.specs.Reader.{Tells, EndsBehind}
use Rattle.lsm_frame.specs.declared.found.Found.{Found}
use Rattle.lsm_frame.specs.declared.found.Found.TheVariants.{Over, Record}

-- the text ends at this place, or has a record, and then what is still to be read
abbrev pub IsFound : List ℕ → ℕ → Found → Type 0
IsFound text from (Over ending) = left None from text ≡ ([], ending)
IsFound text from (Record place next payload) = left None from text ≡ ((place, payload) ∷ (left None next text).0, (left None next text).1)

-- a record leads on by a header or more, and not behind the text
abbrev pub LeadsTo : ℕ → ℕ → Found → Type 0
LeadsTo from len (Over ending) = Unit {0}
LeadsTo from len (Record place next payload) = (from + 7 ≤ next) × (next ≤ len)

-- so many records of a text lie before a place, and the others from it on
pub record StandsAt (text : List ℕ) (given at : ℕ) : Type 0 where
  pub before : List (ℕ × List ℕ)
  pub count : length before ≡ given
  pub all : records_of text ≡ (before ++ (left None at text).0, (left None at text).1)

-- how far a text was read
abbrev pub IsRead : List ℕ → ℕ → ℕ → Option Ending → Type 0
IsRead text given at None = StandsAt text given at
IsRead text given at (Some ending) = EndsBehind text given ending

-- a reader's fields agree with each other and with the view
pub record Agrees (viewed : Viewed) (buffer : List ℕ) (base : Option ℕ) (given at : ℕ) (ended : Option Ending) : Type 0 where
  pub loads : Loads viewed buffer base
  pub inside : at ≤ viewed.len
  pub counted : 7 * given ≤ at
  pub read : (text : List ℕ) → Tells viewed text → IsRead text given at ended
