-- How far a compaction's outputs are written.
use Rattle.std.specs.Prelude.{◌≡◌, ◌⊎◌, ℕ, ◌≤◌, Bool, true, false, List, [], ◌∷◌, ◌++◌, length, Option, Some, None, Result, Ok, Err}
use Rattle.std.specs.List.{AllByRecursion}
use Rattle.lsm_rows.specs.declared.rows.Row.{Row}
use Rattle.lsm_block.specs.TableText.{table_text}
use Rattle.lsm_version.specs.declared.tables.Add.{Add}
use Rattle.lsm_compact.specs.declared.outputs.Outputs.{Outputs}
use Rattle.lsm_compact.specs.declared.outputs.Stage.{Stage}
use Rattle.lsm_compact.specs.declared.outputs.Stage.TheVariants.{Closed, Open, Ending, Sealing}
use Rattle.lsm_compact.specs.declared.port.PortFault.{PortFault}
use Rattle.lsm_compact.specs.declared.port.CompactFault.{CompactFault}
use Rattle.lsm_compact.specs.declared.port.CompactFault.TheVariants.{Port, NoMemory}
use Rattle.lsm_compact.specs.Building.{Table, AreRows}
use Rattle.lsm_compact.specs.Calls.{Called, Made, Files, fault_of, files_after}
use Rattle.lsm_compact.specs.Outputs.{AreOutputs, IsOutput, IsAddOf, AreAdds, ended_text, ended_len, is_full, joined}

-- ---- files of outputs

-- the file of a table that is added, with these bytes
abbrev pub file_of : Add → List ℕ → Made
file_of add bytes = record { number = add.table.number; session = add.table.session; bytes = bytes }

-- the whole file of a table that is added with these rows
abbrev pub whole_file : List Row → Add → Made
whole_file rows add = file_of add (table_text rows add.table.number add.table.session)

-- the files of all outputs
unfoldable pub made_of : List (List Row) → List Add → List Made
made_of [] adds = []
made_of (rows ∷ outputs) [] = []
made_of (rows ∷ outputs) (add ∷ adds) = whole_file rows add ∷ made_of outputs adds

-- ---- stages

-- the rows of the table that is open
abbrev pub open_rows : Stage → List Row
open_rows Closed = []
open_rows (Open table piece ended) = table.rows
open_rows (Ending number tail) = []
open_rows (Sealing number) = []

-- the last of the tables that are added isn't sealed yet: of its file, begun with its number, these bytes are there
pub record IsLast (outputs : List (List Row)) (adds : List Add) (files : Files) (number : ℕ)
    (bytes rest : List ℕ) : Type 0 where
  pub before : List (List Row)
  pub rows : List Row
  pub sealed : List Add
  pub add : Add
  pub outputs_are : outputs ≡ before ++ rows ∷ []
  pub adds_are : adds ≡ sealed ++ add ∷ []
  pub files_are : files ≡ record { sealed = made_of before sealed; begun = Some (file_of add bytes) }
  pub number_is : number ≡ add.table.number
  pub text_is : bytes ++ rest ≡ table_text rows add.table.number add.table.session

-- Rows come into a table, and of its file these bytes are there. It was never ended unless it is full or no rows follow. The
-- tables before it are full.
pub record IsOpen (over : Bool) (outputs : List (List Row)) (adds : List Add) (files : Files) (table : Table)
    (piece : List ℕ) (ended : ℕ) : Type 0 where
  pub bytes : List ℕ
  pub files_are : files ≡ record {
    sealed = made_of outputs adds;
    begun = Some
        (record { number = table.number; session = table.session; bytes = bytes });
  }
  pub rows_are : AreRows table.rows
  pub text_is : bytes ++ piece ≡ ended_text table.rows
  pub ended_is : ended ≡ length (ended_text table.rows)
  pub full : AllByRecursion (λ rows. is_full rows ≡ true) outputs
  pub whole_is : over ≡ false → is_full table.rows ≡ false → table.whole ≡ true

-- the files are as the stage says
unfoldable pub IsStage : Bool → List (List Row) → List Add → Files → Stage → Type 0
IsStage over outputs adds files Closed = files ≡ record { sealed = made_of outputs adds; begun = None }
IsStage over outputs adds files (Open table piece ended) = IsOpen over outputs adds files table piece ended
IsStage over outputs adds files (Ending number tail) = (bytes : List ℕ) × IsLast outputs adds files number bytes tail
IsStage over outputs adds files (Sealing number) = (bytes : List ℕ) × IsLast outputs adds files number bytes []

-- each output is full, or all but the last, where none follows
unfoldable pub AreFull : Bool → List (List Row) → Type 0
AreFull over outputs = AllByRecursion (λ rows. is_full rows ≡ true) outputs
    ⊎ ((over ≡ true) × (before : List (List Row)) × (last : List Row) × (outputs ≡ before ++ last ∷ [])
    × AllByRecursion (λ rows. is_full rows ≡ true) before)

-- these rows are written, and the calls that were made have made these files
pub record IsWriting (over : Bool) (o : Outputs) (files : Files) (written : List Row) : Type 0 where
  pub outputs : List (List Row)
  pub rows_are : written ≡ joined outputs ++ open_rows o.stage
  pub adds : AreAdds o.level outputs o.adds
  pub each : AllByRecursion IsOutput outputs
  pub full : AreFull over outputs
  pub stage : IsStage over outputs o.adds files o.stage

-- No rows follow, and all that are written are those of these outputs, each cut where it is full. Each output's table is added,
-- and its file is made and sealed.
pub record IsWhole (level : ℕ) (tables : List Add) (files : Files) (written : List Row) : Type 0 where
  pub outputs : List (List Row)
  pub rows : written ≡ joined outputs
  pub ended : AreOutputs outputs
  pub adds : AreAdds level outputs tables
  pub files_are : files ≡ record { sealed = made_of outputs tables; begun = None }

-- ---- answers

-- the fault of the port that an answer names
abbrev pub fault_in : {T : Type 0} → Result T CompactFault → Option PortFault
fault_in (Ok value) = None
fault_in (Err (Port fault)) = Some fault
fault_in (Err NoMemory) = None

-- none of the calls was refused
abbrev pub AreTaken : List Called → Type 0
AreTaken calls = AllByRecursion (λ (call : Called). fault_of call ≡ None) calls

-- none of the calls was refused but the last, where a fault is named, and that by this fault
unfoldable pub AreAnswered : Option PortFault → List Called → Type 0
AreAnswered None calls = AreTaken calls
AreAnswered (Some fault) calls = (before : List Called) × (last : Called) × (calls ≡ before ++ last ∷ []) × AreTaken before
    × (fault_of last ≡ Some fault)

-- After these calls and some more the port is this, the rows are written so far, and the answer names the one refusal.
pub record Goes {P : Type 0} (went : P → List Called → P → Type 0) (start : P) (calls : List Called) (port : P)
    (over : Bool) (o : Outputs) (written : List Row) (fault : Option PortFault) : Type 0 where
  pub more : List Called
  pub led : went start (calls ++ more) port
  pub writing : IsWriting over o (files_after (calls ++ more)) written
  pub answered : AreAnswered fault more

-- ---- the end of a table

-- a table was ended: it is the last of those that are added, and these bytes come behind those of its ended blocks
pub record IsEndedAs (level : ℕ) (t : Table) (old new : List Add) (ended : ℕ × List ℕ) : Type 0 where
  pub add : Add
  pub adds_are : new ≡ old ++ add ∷ []
  pub number_is : ended.0 ≡ add.table.number
  pub numbers : (add.table.number ≡ t.number) × (add.table.session ≡ t.session)
  pub add_is : IsAddOf level t.rows add
  pub text_is : ended_text t.rows ++ ended.1 ≡ table_text t.rows add.table.number add.table.session

-- a table that is open has a row, and all bytes of its ended blocks are appended
abbrev pub CanEnd : Stage → Type 0
CanEnd Closed = Unit {0}
CanEnd (Open table piece ended) = (1 ≤ length table.rows) × (piece ≡ [])
CanEnd (Ending number tail) = Unit {0}
CanEnd (Sealing number) = Unit {0}

-- a table that is open is full, or no rows follow
abbrev pub MayEnd : Bool → Stage → Type 0
MayEnd over Closed = Unit {0}
MayEnd over (Open table piece ended) = (over ≡ true) ⊎ (is_full table.rows ≡ true)
MayEnd over (Ending number tail) = Unit {0}
MayEnd over (Sealing number) = Unit {0}

-- ---- what each call keeps of the stage

-- Rows have come into a table, and the bytes of its ended blocks are counted. It was never ended unless it is full or no rows
-- follow.
pub record IsGrown (over : Bool) (table : Table) (ended : ℕ) : Type 0 where
  pub rows_are : AreRows table.rows
  pub ended_is : ended ≡ ended_len table.rows
  pub whole_is : over ≡ false → is_full table.rows ≡ false → table.whole ≡ true

-- the table that is open, if one is, has grown so
abbrev pub IsSound : Bool → Stage → Type 0
IsSound over Closed = Unit {0}
IsSound over (Open table piece ended) = IsGrown over table ended
IsSound over (Ending number tail) = Unit {0}
IsSound over (Sealing number) = Unit {0}

-- the table that is open, if one is, has a row
abbrev pub HasRow : Stage → Type 0
HasRow Closed = Unit {0}
HasRow (Open table piece ended) = 1 ≤ length table.rows
HasRow (Ending number tail) = Unit {0}
HasRow (Sealing number) = Unit {0}

-- no row has come into the table that is open, and it may have been ended; no empty one was begun
unfoldable pub HasNoMore : Stage → Stage → Type 0
HasNoMore old new = ((open_rows new ≡ open_rows old) ⊎ (open_rows new ≡ [])) × (HasRow old → HasRow new)

-- no table is open, or one that isn't full, and all bytes of its ended blocks are appended
abbrev pub IsSettled : Stage → Type 0
IsSettled Closed = Unit {0}
IsSettled (Open table piece ended) = (piece ≡ []) × (is_full table.rows ≡ false)
IsSettled (Ending number tail) = ⊥
IsSettled (Sealing number) = ⊥

-- such a table is open
abbrev pub IsBegun : Stage → Type 0
IsBegun Closed = ⊥
IsBegun (Open table piece ended) = (piece ≡ []) × (is_full table.rows ≡ false)
IsBegun (Ending number tail) = ⊥
IsBegun (Sealing number) = ⊥

-- a table is open that was never ended, and this row may come behind its rows
abbrev pub CanAdd : Row → Stage → Type 0
CanAdd row Closed = ⊥
CanAdd row (Open table piece ended) =
    (table.whole ≡ true) × (piece ≡ []) × (ended ≡ ended_len table.rows) × AreRows (table.rows ++ row ∷ [])
CanAdd row (Ending number tail) = ⊥
CanAdd row (Sealing number) = ⊥

-- the table that is open is full, or there is none and one isn't sealed yet
abbrev pub IsToEnd : Stage → Type 0
IsToEnd Closed = ⊥
IsToEnd (Open table piece ended) = is_full table.rows ≡ true
IsToEnd (Ending number tail) = Unit {0}
IsToEnd (Sealing number) = Unit {0}

-- no table is to be ended or sealed before a row comes
abbrev pub IsNotToEnd : Stage → Type 0
IsNotToEnd Closed = Unit {0}
IsNotToEnd (Open table piece ended) = is_full table.rows ≡ false
IsNotToEnd (Ending number tail) = ⊥
IsNotToEnd (Sealing number) = ⊥

-- no bytes of ended blocks are to be appended
abbrev pub HasNoPiece : Stage → Type 0
HasNoPiece Closed = Unit {0}
HasNoPiece (Open table piece ended) = piece ≡ []
HasNoPiece (Ending number tail) = Unit {0}
HasNoPiece (Sealing number) = Unit {0}

-- no rows come into a table
abbrev pub IsEnded : Stage → Type 0
IsEnded Closed = Unit {0}
IsEnded (Open table piece ended) = ⊥
IsEnded (Ending number tail) = Unit {0}
IsEnded (Sealing number) = Unit {0}

-- nothing is to be appended
abbrev pub IsAppended : Stage → Type 0
IsAppended Closed = Unit {0}
IsAppended (Open table piece ended) = ⊥
IsAppended (Ending number tail) = ⊥
IsAppended (Sealing number) = Unit {0}
