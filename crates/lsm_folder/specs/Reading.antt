-- What a folder reads as, in two steps: its files to the texts that are needed, and these to contents and a sequence. A
-- refusal is the first in the order of reading: CURRENT; the manifest from its start on; the version's tables by their
-- numbers; and each log from its start on, the logs by their numbers.
use Rattle.std.specs.Prelude.{ℕ, ◌+◌, List, [], ◌∷◌, ◌++◌, Result, Ok, Err}
use Rattle.std.specs.List.{flat_map}
use Rattle.std.specs.Ordering.{nat_cmp}
use Rattle.std.specs.FinMap as finmap
use Rattle.lsm_names.specs.declared.file_names.FileName.TheVariants.{Table, Manifest, Current}
use Rattle.lsm_rows.specs.declared.rows.Row.{Row}
use Rattle.lsm_rows.specs.declared.operations.Op.{Op}
use Rattle.lsm_rows.specs.Replay.{Contents, replayed, sequence_after}
use Rattle.lsm_rows.specs.Rows.{rows_of}
use Rattle.lsm_rows.specs.Contents.{contents_of}
use Rattle.lsm_version.specs.declared.edits.Edit.{Edit}
use Rattle.lsm_version.specs.declared.tables.Placed.{Placed}
use Rattle.lsm_folder.specs.declared.refusals.Refusal.{Refusal}
use Rattle.lsm_folder.specs.declared.refusals.Refusal.TheVariants.{NoFolder, NoCurrent, Missing, Malformed}
use Rattle.lsm_folder.specs.Files.{Files, Place, Nothing, Not_a_folder, Stands_with, file_at}
use Rattle.lsm_folder.specs.Logs.{LogText, logs_of, all_batches}
use Rattle.lsm_folder.specs.Manifests.{edits_said, tables_after, log_after, last_after}
use Rattle.lsm_folder.specs.Names.{manifest_in}
use Rattle.lsm_folder.specs.Steps.{◌>>=◌, some_or}
use Rattle.lsm_folder.specs.Tables.{TableRead, table_said}

-- the number of the manifest that CURRENT names
unfoldable pub current_of : Files → Result ℕ Refusal
current_of files = do
  bytes ← some_or NoCurrent (file_at files Current)
  some_or (Malformed Current 0) (manifest_in bytes)

-- the edits of the manifest of this number
unfoldable pub edits_of : Files → ℕ → Result (List Edit) Refusal
edits_of files manifest = do
  bytes ← some_or (Missing (Manifest manifest)) (file_at files (Manifest manifest))
  edits_said (Manifest manifest) bytes

-- what the table of a number says, which the version has so
unfoldable pub table_of : Files → ℕ → Placed → Result TableRead Refusal
table_of files number placed = do
  bytes ← some_or (Missing (Table number)) (file_at files (Table number))
  table_said number placed.info bytes

-- what these tables say
abbrev pub tables_in : Files → List (ℕ × Placed) → Result (List (ℕ × TableRead)) Refusal
tables_in files [] = Ok []
tables_in files (table ∷ tables) = do
  first ← table_of files table.0 table.1
  more ← tables_in files tables
  Ok ((table.0, first) ∷ more)

-- ---- from files to texts

-- what is needed of a folder: the manifest's edits; by number the live tables; and by number the logs from the log number on
pub record Texts : Type 0 where
  pub edits : List Edit
  pub tables : finmap.FinMap nat_cmp TableRead
  pub logs : finmap.FinMap nat_cmp LogText

-- the texts of a folder's files whose manifest has these edits
unfoldable pub texts_behind : Files → List Edit → Result Texts Refusal
texts_behind files edits = do
  tables ← tables_in files (finmap.entries (tables_after edits))
  Ok (record { edits = edits; tables = finmap.from_entries tables; logs = logs_of (log_after edits) files })

-- the texts of a folder's files
unfoldable pub texts_in : Files → Result Texts Refusal
texts_in files = do
  manifest ← current_of files
  edits ← edits_of files manifest
  texts_behind files edits

-- the texts of what stands in a folder's place; a file there is no folder
abbrev pub texts_of : Place → Result Texts Refusal
texts_of Nothing = Err NoFolder
texts_of Not_a_folder = Err NoFolder
texts_of (Stands_with files) = texts_in files

-- ---- from texts to contents

-- what a store shows: its last sequence, and its contents
pub record Shown : Type 0 where
  pub sequence : ℕ
  pub contents : Contents

-- all rows of texts, and the last sequence
pub record AllRows : Type 0 where
  pub sequence : ℕ
  pub rows : List Row

-- the rows of tables, by the tables' numbers
unfoldable pub table_rows : finmap.FinMap nat_cmp TableRead → List Row
table_rows tables = flat_map (λ (table : ℕ × TableRead). table.1.rows) (finmap.entries tables)

-- all rows: those of the tables, and those of the logs, whose batches go on behind the version's last sequence
unfoldable pub rows_in : Texts → Result AllRows Refusal
rows_in texts = do
  batches ← all_batches (last_after texts.edits + 1) (finmap.entries texts.logs)
  Ok (record {
    sequence = sequence_after (last_after texts.edits) batches;
    rows = table_rows texts.tables ++ rows_of (last_after texts.edits + 1) batches;
  })

-- what texts show: the contents that all rows stand for
abbrev pub read : Texts → Result Shown Refusal
read texts = rows_in texts >>= λ (all : AllRows). Ok (record { sequence = all.sequence; contents = contents_of all.rows })

-- what a folder reads as
abbrev pub reading : Place → Result Shown Refusal
reading place = texts_of place >>= read

-- what a store shows that began with nothing and wrote these batches
abbrev pub shown_by : List (List Op) → Result Shown Refusal
shown_by batches = Ok (record { sequence = sequence_after 0 batches; contents = replayed finmap.empty batches })

-- the same of the batches that were read, or the refusal
abbrev pub shown_of : Result (List (List Op)) Refusal → Result Shown Refusal
shown_of batches = batches >>= shown_by
