-- What a compaction's reader has given of the rows of its tables.
use Rattle.std.specs.Prelude.{◌≡◌, ℕ, true, List, [], ◌∷◌, ◌++◌, Contains, slice_get, Option, Some, option_to_list, Result, Ok, Err}
use Rattle.lsm_rows.specs.declared.rows.Row.{Row}
use Rattle.lsm_block.specs.Runs.{rows_after}
use Rattle.lsm_block.specs.TableText.{AreTableRows}
use Rattle.lsm_version.specs.declared.tables.Place.{Place}
use Rattle.lsm_merge.specs.Merging.{Merging}
use Rattle.lsm_merge.specs.Runs.{IsMerged}
use Rattle.lsm_compact.specs.declared.input.Input.{Input}
use Rattle.lsm_compact.specs.declared.input.Reading.{Reading}
use Rattle.lsm_compact.specs.declared.port.CompactFault.{CompactFault}
use Rattle.lsm_compact.specs.declared.reader.Reader.{Reader}
use Rattle.lsm_compact.specs.Reading.{left_rows, is_ended}

-- the rows of a table that weren't read yet
abbrev pub unread : (ℕ → List Row) → Reading → List Row
unread rows reading = rows_after reading.after (rows reading.number)

-- the tables at these places have these rows, in their order
abbrev pub AreInOrder : (ℕ → List Row) → List Place → Type 0
AreInOrder rows places = (place : Place) → Contains places place → AreTableRows (rows place.number)

-- an input, and the rows of its table that weren't read yet
pub record Whole : Type 0 where
  pub input : Input
  pub behind : List Row

-- all rows that it has left, read or not
abbrev pub whole_rows : Whole → List Row
whole_rows whole = left_rows whole.input ++ whole.behind

-- the inputs, each with its unread rows
unfoldable pub wholes : (ℕ → List Row) → List Reading → List Input → List Whole
wholes rows [] sources = []
wholes rows (reading ∷ readings) [] = []
wholes rows (reading ∷ readings) (source ∷ sources) =
    record { input = source; behind = unread rows reading } ∷ wholes rows readings sources

-- the merge of the inputs, each with its unread rows
abbrev pub whole_merge : (ℕ → List Row) → List Reading → Merging Input → Merging Whole
whole_merge rows readings m =
    record { found = m.found; heads = m.heads; asked = m.asked; sources = wholes rows readings m.sources }

-- The tables that are read have these rows, in their order. Of all rows of the inputs the newest of each of the first user keys
-- were given, and those of the others are to come. Of an input that is at its end all rows were read.
pub record HasRun (rows : ℕ → List Row) (inputs given : List Row) (readings : List Reading) (m : Merging Input)
    : Type 0 where
  pub order : (place : ℕ) (reading : Reading) → slice_get readings place ≡ Some reading → AreTableRows (rows reading.number)
  pub merged : IsMerged whole_rows inputs given (whole_merge rows readings m)
  pub ends : (place : ℕ) (reading : Reading) (source : Input) → slice_get readings place ≡ Some reading
      → slice_get m.sources place ≡ Some source → is_ended source ≡ true → unread rows reading ≡ []

-- the reader has given these of the inputs' rows, where the port tells the rows of its tables
pub record HasGiven (told : Option (ℕ → List Row)) (inputs given : List Row) (r : Reader) : Type 0 where
  pub run : (rows : ℕ → List Row) → told ≡ Some rows → HasRun rows inputs given r.readings.items r.merge

-- whatever the reader had given, a call has given these rows more
unfoldable pub GivesMore : Option (ℕ → List Row) → Reader → Option (ℕ → List Row) → Reader → List Row → Type 0
GivesMore before old now new more =
    (inputs given : List Row) → HasGiven before inputs given old → HasGiven now inputs (given ++ more) new

-- the rows that an answer gives: one, or none
abbrev pub given_in : Result (Option Row) CompactFault → List Row
given_in (Ok next) = option_to_list next
given_in (Err fault) = []
