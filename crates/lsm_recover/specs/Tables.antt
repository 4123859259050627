-- What was read of a version's tables.
use Rattle.std.specs.Prelude.{◌≡◌, ◌⊎◌, ℕ, List, map, Result, Ok, Err}
use Rattle.std.specs.List.{flat_map}
use Rattle.lsm_names.specs.declared.file_names.FileName.{FileName}
use Rattle.lsm_rows.specs.declared.rows.Row.{Row}
use Rattle.lsm_block.specs.declared.entries.Entry.{Entry}
use Rattle.lsm_table.specs.declared.faults.TableFault.{TableFault}
use Rattle.lsm_table.specs.DataBlocks.{IsNthBlock, IsNthFault}
use Rattle.lsm_table.specs.Rows.{row_at}
use Rattle.lsm_folder.specs.declared.refusals.Refusal.{Refusal}
use Rattle.lsm_folder.specs.Tables.{TableRead}
use Rattle.lsm_folder.specs.Walks.{HasWalked}
use Rattle.lsm_recover.specs.declared.errors.FolderError.{FolderError}
use Rattle.lsm_recover.specs.declared.errors.FolderError.TheVariants.{NoMemory}
use Rattle.lsm_recover.specs.Answers.{IsRefusedBy}
use Rattle.lsm_recover.specs.Causes.{table_error}
use Rattle.lsm_recover.specs.Gathered.{Gathered, with_rows}

-- the rows of tables, one table's behind another's
abbrev pub rows_in_turn : List (ℕ × TableRead) → List Row
rows_in_turn tables = flat_map (λ (table : ℕ × TableRead). table.1.rows) tables

-- a table was read, and its rows were gathered
pub record GathersTable (read : Result TableRead Refusal) (before after : Gathered) : Type 0 where
  pub table : TableRead
  pub is : read ≡ Ok table
  pub rows_are : after ≡ with_rows before table.rows

-- the answer is that a table's rows were gathered, or the table's refusal
abbrev pub AnswersTable : {T : Type 0} → Result TableRead Refusal → Gathered → Gathered → Result T FolderError → Type 0
AnswersTable read before after (Ok done) = GathersTable read before after
AnswersTable read before after (Err error) = IsRefusedBy read error

-- tables were read, and their rows were gathered
pub record GathersTables (read : Result (List (ℕ × TableRead)) Refusal) (before after : Gathered) : Type 0 where
  pub tables : List (ℕ × TableRead)
  pub is : read ≡ Ok tables
  pub rows_are : after ≡ with_rows before (rows_in_turn tables)

-- the answer is that the rows of tables were gathered, or the first refusal
abbrev pub AnswersTables : {T : Type 0} → Result (List (ℕ × TableRead)) Refusal → Gathered → Gathered → Result T FolderError
    → Type 0
AnswersTables read before after (Ok done) = GathersTables read before after
AnswersTables read before after (Err error) = IsRefusedBy read error

-- ---- one table's data blocks

-- the rows of the data block of this number were gathered
pub record GathersBlock (text : List ℕ) (index : List Entry) (nth : ℕ) (before after : Gathered) : Type 0 where
  pub block : List Entry
  pub is : IsNthBlock text index nth block
  pub rows_are : after ≡ with_rows before (map row_at block)

-- the rows of the first data blocks, so many, were gathered
pub record HasGathered (text : List ℕ) (index : List Entry) (count : ℕ) (before after : Gathered) : Type 0 where
  pub rows : List Row
  pub walked : HasWalked text index count rows
  pub rows_are : after ≡ with_rows before rows

-- why the rows of a data block weren't gathered: want of memory, or what is wrong with the block
abbrev pub IsBlockTrouble : FileName → List ℕ → List Entry → ℕ → FolderError → Type 0
IsBlockTrouble name text index nth error =
    (error ≡ NoMemory) ⊎ ((fault : TableFault) × (error ≡ table_error name fault) × IsNthFault text index nth fault)

-- the data blocks before one were read, and this is wrong with it
pub record StopsAt (name : FileName) (text : List ℕ) (index : List Entry) (error : FolderError) : Type 0 where
  pub nth : ℕ
  pub rows : List Row
  pub fault : TableFault
  pub walked : HasWalked text index nth rows
  pub wrong : IsNthFault text index nth fault
  pub error_is : error ≡ table_error name fault

-- why the rows of a table weren't gathered: want of memory, or the first data block that is wrong
abbrev pub IsWalkTrouble : FileName → List ℕ → List Entry → FolderError → Type 0
IsWalkTrouble name text index error = (error ≡ NoMemory) ⊎ StopsAt name text index error
