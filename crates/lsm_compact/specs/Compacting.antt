-- A compaction under way, and what a call leaves of it.
use Rattle.std.specs.Prelude.{◌≡◌, ℕ, Bool, true, false, ◌&&◌, not, List, [], ◌∷◌, ◌++◌, length, filter, Contains, Option, Some, None, is_none, option_to_list, Result, Ok, Err}
use Rattle.std.specs.declared.cmp.Ordering.TheVariants.{Less}
use Rattle.lsm_rows.specs.declared.rows.Row.{Row}
use Rattle.lsm_rows.specs.Replay.{key_cmp}
use Rattle.lsm_version.specs.declared.choices.Choice.{Choice}
use Rattle.lsm_version.specs.declared.edits.Edit.{Edit}
use Rattle.lsm_version.specs.declared.tables.Add.{Add}
use Rattle.lsm_version.specs.Levels.{Tables}
use Rattle.lsm_merge.specs.Merging.{Merging}
use Rattle.lsm_compact.specs.declared.compaction.Compaction.{Compaction}
use Rattle.lsm_compact.specs.declared.deeper.KeyRange.{KeyRange}
use Rattle.lsm_compact.specs.declared.input.Input.{Input}
use Rattle.lsm_compact.specs.declared.outputs.Outputs.{Outputs}
use Rattle.lsm_compact.specs.declared.port.CompactFault.{CompactFault}
use Rattle.lsm_compact.specs.declared.port.PortFault.{PortFault}
use Rattle.lsm_compact.specs.Calls.{Called, Files, IsRowOfStore, files_after, no_files}
use Rattle.lsm_compact.specs.Given.{AreInOrder, GivesMore, HasGiven}
use Rattle.lsm_compact.specs.Ranges.{has_key}
use Rattle.lsm_compact.specs.Readers.{IsAtEnd, IsGivenRow, IsLater, IsPast, IsSoundReader}
use Rattle.lsm_compact.specs.Writing.{AreTaken, Goes, HasRow, IsSound, IsWhole, IsWriting, open_rows}
use Rattle.lsm_compact.specs.Written.{input_rows, is_below}

-- ---- what is written

-- the row is a delete, and none of the ranges has its key
abbrev pub is_bare : List KeyRange → Row → Bool
is_bare ranges row = is_none row.value && not (has_key ranges row.key)

-- of these rows all are written but such deletes
unfoldable pub written_of : List KeyRange → List Row → List Row
written_of ranges rows = filter (λ (row : Row). not (is_bare ranges row)) rows

-- ---- what is read

-- these rows were given, one after another
unfoldable pub HaveCome : Merging Input → List Row → Merging Input → Type 0
HaveCome old [] new = IsLater old new
HaveCome old (row ∷ rows) new = (middle : Merging Input) × IsGivenRow old row middle × HaveCome middle rows new

-- ---- a compaction

-- no row is kept, and all are read
abbrev pub IsUsedUp : Compaction → Type 0
IsUsedUp c = (c.kept ≡ None) × IsAtEnd c.reader.merge

-- the kept row may come behind all rows of the table that is open, and before all that are to come
pub record IsKeptRow (merge : Merging Input) (written : List Row) (row : Row) : Type 0 where
  pub of_store : IsRowOfStore row
  pub past : IsPast row.key merge
  pub behind : (other : Row) → Contains written other → key_cmp other.key row.key ≡ Less

-- A compaction may be asked for a step. Rows may come into the table that is open, or none is kept and all are read. The rows
-- of that table are past; and it has one unless a row is kept that is to be written.
pub record IsSoundCompaction (c : Compaction) : Type 0 where
  pub reader : IsSoundReader c.reader
  pub over : Bool
  pub stage : IsSound over c.outputs.stage
  pub end : over ≡ true → IsUsedUp c
  pub kept : (row : Row) → c.kept ≡ Some row → IsKeptRow c.reader.merge (open_rows c.outputs.stage) row
  pub past : (row : Row) → Contains (open_rows c.outputs.stage) row → IsPast row.key c.reader.merge
  pub some : ((row : Row) → c.kept ≡ Some row → is_bare c.deeper row ≡ true) → HasRow c.outputs.stage

-- These rows were merged and done with: those that aren't left out are written, and the calls that were made have made these
-- files.
pub record HasWritten (over : Bool) (c : Compaction) (done : List Row) (files : Files) : Type 0 where
  pub writing : IsWriting over c.outputs files (written_of c.deeper done)
  pub end : over ≡ true → IsUsedUp c

-- a new compaction of a version's tables: no row is read, and the ranges tell what a delete may hide
pub record IsNew (tables : Tables) (choice : Choice) (c : Compaction) : Type 0 where
  pub sound : IsSoundCompaction c
  pub ranges : (key : List ℕ) → has_key c.deeper key ≡ is_below tables choice key
  pub inputs_are : c.inputs ≡ choice.inputs
  pub level_is : c.outputs.level ≡ choice.output
  pub none_kept : c.kept ≡ None
  pub written : HasWritten false c [] no_files
  pub contents : (rows : ℕ → List Row) → AreInOrder rows choice.inputs
      → HasGiven (Some rows) (input_rows rows choice) [] c.reader

-- ---- what a call leaves

-- after these calls and some more the port is this, these rows are done with, and the answer names the one refusal
pub record GoesOn {P : Type 0} (went : P → List Called → P → Type 0) (start : P) (calls : List Called) (port : P)
    (c : Compaction) (done : List Row) (fault : Option PortFault) : Type 0 where
  pub over : Bool
  pub end : over ≡ true → IsUsedUp c
  pub goes : Goes went start calls port over c.outputs (written_of c.deeper done) fault

-- A call has moved a compaction on by so many rows. What was kept, and what came of the reader since, is done with, in its
-- order, or is kept. Of the rows done with those are written that aren't left out.
pub record HasMoved {P : Type 0} (went : P → List Called → P → Type 0) (told : P → Option (ℕ → List Row)) (before now : P)
    (old new : Compaction) (fault : Option PortFault) (count : ℕ) : Type 0 where
  pub come : List Row
  pub more : List Row
  pub given : HaveCome old.reader.merge come new.reader.merge
  pub contents : GivesMore (told before) old.reader (told now) new.reader come
  pub rows : more ++ option_to_list new.kept ≡ option_to_list old.kept ++ come
  pub count_is : length more ≡ count
  pub inputs_are : new.inputs ≡ old.inputs
  pub deeper_are : new.deeper ≡ old.deeper
  pub level_is : new.outputs.level ≡ old.outputs.level
  pub goes : (over : Bool) (start : P) (calls : List Called) (done : List Row) → went start calls before
      → HasWritten over old done (files_after calls) → GoesOn went start calls now new (done ++ more) fault

-- after these calls and some more, none of which was refused, the outputs are whole
pub record EndsWith {P : Type 0} (went : P → List Called → P → Type 0) (start : P) (calls : List Called) (port : P)
    (level : ℕ) (tables : List Add) (written : List Row) : Type 0 where
  pub later : List Called
  pub led : went start (calls ++ later) port
  pub whole : IsWhole level tables (files_after (calls ++ later)) written
  pub taken : AreTaken later

-- A call has brought a compaction to its end. What was kept, and all that came since, is done with, and no row is to come. The
-- edit drops the inputs, adds the outputs, which are whole, and sets no number.
pub record HasEnded {P : Type 0} (went : P → List Called → P → Type 0) (told : P → Option (ℕ → List Row)) (before now : P)
    (old new : Compaction) (edit : Edit) (count : ℕ) : Type 0 where
  pub come : List Row
  pub given : HaveCome old.reader.merge come new.reader.merge
  pub contents : GivesMore (told before) old.reader (told now) new.reader come
  pub count_is : length (option_to_list old.kept ++ come) ≡ count
  pub end : IsAtEnd new.reader.merge
  pub drops_are : edit.drops ≡ old.inputs
  pub log_is : edit.log ≡ None
  pub next_is : edit.next ≡ None
  pub last_is : edit.last ≡ None
  pub goes : (over : Bool) (start : P) (calls : List Called) (done : List Row) → went start calls before
      → HasWritten over old done (files_after calls)
      → EndsWith went start calls now old.outputs.level edit.adds
      (written_of old.deeper (done ++ (option_to_list old.kept ++ come)))

-- how many rows an answer has merged: one, unless none was left or the call was refused
abbrev pub merged_in : Result Bool CompactFault → ℕ
merged_in (Ok true) = 1
merged_in (Ok false) = 0
merged_in (Err fault) = 0

-- one row was written or left out, unless the call was refused
abbrev pub done_in : Result (Unit {0}) CompactFault → ℕ
done_in (Ok done) = 1
done_in (Err fault) = 0

-- a row came behind those that are written
pub record HasAdded (old new : Outputs) (row : Row) : Type 0 where
  pub rows : open_rows new.stage ≡ open_rows old.stage ++ row ∷ []
  pub sound : IsSound false new.stage
  pub level_is : new.level ≡ old.level
  pub writing : (files : Files) (written : List Row) → IsWriting false old files written
      → IsWriting false new files (written ++ row ∷ [])
