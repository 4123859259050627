-- What the parts of a folder say, each by itself, so that the folder reads as a store that keeps them says.
use Rattle.std.specs.Prelude.{◌≡◌, ℕ, ◌+◌, ◌≤◌, nat_eq, Bool, true, false, List, [], ◌∷◌, ◌++◌, map, All, Option, Some, None, Ok}
use Rattle.std.specs.List.{flat_map, IsDistinct}
use Rattle.std.specs.Ordering.{nat_cmp}
use Rattle.std.specs.FinMap as finmap
use Rattle.lsm_names.specs.declared.file_names.FileName.{FileName}
use Rattle.lsm_names.specs.declared.file_names.FileName.TheVariants.{Log, Manifest, Current}
use Rattle.lsm_names.specs.FileNames.{is_file_number}
use Rattle.lsm_rows.specs.declared.operations.Op.{Op}
use Rattle.lsm_rows.specs.declared.rows.Row.{Row}
use Rattle.lsm_rows.specs.Replay.{sequence_after}
use Rattle.lsm_rows.specs.Rows.{rows_of}
use Rattle.lsm_frame.specs.Growth.{IsOpen}
use Rattle.lsm_frame.specs.Records.{front, end_of}
use Rattle.lsm_wal.specs.Reading.{At_end, IsReading, open_end}
use Rattle.lsm_folder.specs.Files.{Files, file_at}
use Rattle.lsm_folder.specs.Names.{current_text}
use Rattle.lsm_folder.specs.Logs.{is_empty}
use Rattle.lsm_version.specs.declared.edits.Edit.{Edit}
use Rattle.lsm_version.specs.declared.tables.Placed.{Placed}
use Rattle.lsm_version.specs.EditText.{edit_text}
use Rattle.lsm_version.specs.Edits.{IsEdit}
use Rattle.lsm_version.specs.Levels.{Tables, IsLeveled}
use Rattle.lsm_version.specs.Versions.{version_after}
use Rattle.lsm_folder.specs.Manifests.{may_follow, tables_after, log_after, last_after}
pub use Rattle.lsm_folder.specs.Needed.{HasTable}
use Rattle.lsm_folder.specs.Needed.{IsAsListed, needed_tables, sequences}

-- ---- the manifest

-- edits make a version
pub record IsTaken (edits : List Edit) : Type 0 where
  pub tables : Tables
  pub is : version_after edits ≡ Ok tables

-- there is a first edit, and it gives all three numbers
abbrev pub first_may : List Edit → Bool
first_may [] = false
first_may (edit ∷ edits) = may_follow [] edit

-- edits of a manifest: the first gives all three numbers, each is in the grammar, and they make a version
pub record AreEdits (edits : List Edit) : Type 0 where
  pub first : first_may edits ≡ true
  pub each : All IsEdit edits
  pub taken : IsTaken edits

-- the records of a text are these edits, and nothing is wrong behind them: it ends, or inside a record
pub record IsManifest (text : List ℕ) (edits : List Edit) : Type 0 where
  pub are : AreEdits edits
  pub records : front text ≡ map edit_text edits
  pub ends : IsOpen (end_of text)

-- ---- logs

-- from a number on the folder has these logs, by their numbers, with these bytes, and no others
pub record HasLogs (files : Files) (least : ℕ) (logs : finmap.FinMap nat_cmp (List ℕ)) : Type 0 where
  pub there : (number : ℕ) → least ≤ number → file_at files (Log number) ≡ finmap.get logs number
  pub live : (number : ℕ) (bytes : List ℕ) → finmap.get logs number ≡ Some bytes → least ≤ number

-- only the last log may end inside a record
abbrev pub may_end : Bool → Option ℕ → Bool
may_end is_last None = true
may_end is_last (Some place) = is_last

-- a log reads to these batches, and nothing is wrong behind them
pub record IsLog (is_last : Bool) (expected : ℕ) (text : List ℕ) (batches : List (List Op)) : Type 0 where
  pub torn : Option ℕ
  pub reading : IsReading expected text batches (At_end (open_end torn))
  pub ends : may_end is_last torn ≡ true

-- logs read to these batches, each log's going on behind those of the one before it
unfoldable pub AreLogs : ℕ → List (ℕ × List ℕ) → List (List (List Op)) → Type 0
AreLogs expected [] [] = Unit {0}
AreLogs expected [] (batches ∷ more) = ⊥
AreLogs expected (log ∷ logs) [] = ⊥
AreLogs expected (log ∷ logs) (batches ∷ more) = IsLog (is_empty logs) expected log.1 batches
    × AreLogs (sequence_after expected batches) logs more

-- ---- all parts

-- The parts of a folder: CURRENT names the manifest of these edits; each live table has its rows; and the logs, from the log
-- number on, read to these batches, which go on behind the last sequence in tables.
pub record HasParts (files : Files) (edits : List Edit) (rows : ℕ → List Row) (logs : finmap.FinMap nat_cmp (List ℕ))
    (batches : List (List (List Op))) : Type 0 where
  pub manifest : ℕ
  pub numbered : is_file_number manifest ≡ true
  pub current : file_at files Current ≡ Some (current_text manifest)
  pub text : List ℕ
  pub there : file_at files (Manifest manifest) ≡ Some text
  pub edits_are : IsManifest text edits
  pub tables : (number : ℕ) (placed : Placed) → finmap.get (tables_after edits) number ≡ Some placed
      → HasTable files number placed (rows number)
  pub has_logs : HasLogs files (log_after edits) logs
  pub logs_are : AreLogs (last_after edits + 1) (finmap.entries logs) batches

-- the names of these parts: CURRENT, the manifest, the live tables by their numbers, and the logs by theirs
abbrev pub names_of_parts : ℕ → List Edit → finmap.FinMap nat_cmp (List ℕ) → List FileName
names_of_parts manifest edits logs =
    Current ∷ Manifest manifest ∷ needed_tables (tables_after edits) ++ map (λ (log : ℕ × List ℕ). Log log.0) (finmap.entries logs)

-- the rows of a version's tables, by the tables' numbers
abbrev pub rows_of_tables : Tables → (ℕ → List Row) → List Row
rows_of_tables tables rows = flat_map (λ (table : ℕ × Placed). rows table.0) (finmap.entries tables)

-- the batches of all logs
abbrev pub all_of : List (List (List Op)) → List (List Op)
all_of batches = flat_map (λ (of_log : List (List Op)). of_log) batches

-- all rows: those of the live tables, and those of the batches
abbrev pub rows_of_all : List Edit → (ℕ → List Row) → List (List (List Op)) → List Row
rows_of_all edits rows batches = rows_of_tables (tables_after edits) rows ++ rows_of (last_after edits + 1) (all_of batches)

-- Levels are in order, each table is as its version lists it, and no two rows of tables have one sequence. The rows of logs
-- come behind the last sequence in tables, each behind the one before it.
pub record AreLawful (edits : List Edit) (rows : ℕ → List Row) : Type 0 where
  pub leveled : IsLeveled (tables_after edits) rows
  pub listed : (number : ℕ) (placed : Placed) → finmap.get (tables_after edits) number ≡ Some placed
      → IsAsListed placed.info (rows number) (last_after edits)
  pub distinct : IsDistinct nat_eq (sequences (rows_of_tables (tables_after edits) rows))
