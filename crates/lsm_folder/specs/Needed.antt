-- What a folder needs, when it stands for some contents, and when it is fresh.
use Rattle.std.specs.Prelude.{◌≡◌, ◌⊎◌, ℕ, ◌<◌, ◌≤◌, Bool, true, false, nat_eq, IsTrue, List, [], ◌∷◌, ◌++◌, length, map, take, All, Contains, Option, Some, None, Result, Ok, Err}
use Rattle.std.specs.List.{list_all, IsDistinct}
use Rattle.std.specs.FinMap as finmap
use Rattle.lsm_names.specs.declared.file_names.FileName.{FileName}
use Rattle.lsm_names.specs.declared.file_names.FileName.TheVariants.{Log, Table, Manifest, Temp, Current}
use Rattle.lsm_names.specs.FileNames.{spelled}
use Rattle.lsm_disk.specs.Names.{Folder_node, id_of, stands}
use Rattle.lsm_disk.specs.Images.{Tree, bytes_at}
use Rattle.lsm_rows.specs.declared.operations.Op.{Op}
use Rattle.lsm_rows.specs.declared.rows.Row.{Row}
use Rattle.lsm_rows.specs.Replay.{Contents, replayed, sequence_after}
use Rattle.lsm_block.specs.Parts.{last_key}
use Rattle.lsm_block.specs.TableText.{row_entry}
use Rattle.lsm_wal.specs.Batches.{wal_text, in_sequence}
use Rattle.lsm_table.specs.WholeTables.{IsTable}
use Rattle.lsm_version.specs.declared.edits.Edit.{Edit}
use Rattle.lsm_version.specs.declared.tables.Placed.{Placed}
use Rattle.lsm_version.specs.declared.tables.TableInfo.{TableInfo}
use Rattle.lsm_version.specs.Levels.{Tables, IsLeveled}
use Rattle.lsm_version.specs.Versions.{empty_version}
use Rattle.lsm_folder.specs.declared.refusals.Refusal.{Refusal}
use Rattle.lsm_folder.specs.Names.{current_text}
use Rattle.lsm_folder.specs.Files.{Item, A_file, Files, Place, Nothing, Not_a_folder, Stands_with, file_at}
use Rattle.lsm_folder.specs.Logs.{live_logs}
use Rattle.lsm_folder.specs.Manifests.{first_edit, manifest_text, tables_after, log_after, last_after}
use Rattle.lsm_folder.specs.Steps.{◌>>=◌}
use Rattle.lsm_folder.specs.Tables.{TableRead}
use Rattle.lsm_folder.specs.Reading.{Texts, AllRows, current_of, edits_of, texts_in, rows_in, reading}

-- ---- what is needed

-- the names of a version's tables, by their numbers
abbrev pub needed_tables : Tables → List FileName
needed_tables tables = map (λ (table : ℕ × Placed). Table table.0) (finmap.entries tables)

-- the names of a folder's logs from a number on
abbrev pub needed_logs : Files → ℕ → List FileName
needed_logs files least = map (λ (log : ℕ × List ℕ). Log log.0) (live_logs least files)

-- the names of the tables and the logs that a version needs
abbrev pub needed_behind : Files → Result (List Edit) Refusal → List FileName
needed_behind files (Err refusal) = []
needed_behind files (Ok edits) = needed_tables (tables_after edits) ++ needed_logs files (log_after edits)

-- the manifest, and the names that its version needs
abbrev pub needed_by : Files → Result ℕ Refusal → List FileName
needed_by files (Err refusal) = []
needed_by files (Ok manifest) = Manifest manifest ∷ needed_behind files (edits_of files manifest)

-- the names that are read: CURRENT, the manifest, the version's tables, and the logs from the log number on
abbrev pub needed : Files → List FileName
needed files = Current ∷ needed_by files (current_of files)

-- the edits of the manifest that CURRENT names
abbrev pub edits_at : Files → Result (List Edit) Refusal
edits_at files = current_of files >>= edits_of files

-- The other folder has the files that this one needs, with the same bytes, and no more logs from the log number on. What
-- else it holds doesn't matter.
pub record HasNeeded (files others : Files) : Type 0 where
  pub same : (name : FileName) → Contains (needed files) name → file_at others name ≡ file_at files name
  pub logs : (edits : List Edit) (number : ℕ) → edits_at files ≡ Ok edits → log_after edits ≤ number
      → Contains (needed files) (Log number) ⊎ (file_at others (Log number) ≡ None)

-- ---- what a folder stands for

-- the sequences of rows
abbrev pub sequences : List Row → List ℕ
sequences rows = map (λ (row : Row). row.sequence) rows

-- all rows of a folder's files
abbrev pub rows_at : Files → Result AllRows Refusal
rows_at files = texts_in files >>= rows_in

-- the rows of the table of this number
abbrev pub rows_by : Option TableRead → List Row
rows_by None = []
rows_by (Some table) = table.rows

abbrev pub rows_of_table : Texts → ℕ → List Row
rows_of_table texts number = rows_by (finmap.get texts.tables number)

-- the table of this number is there whole, with these rows, and with the session and the size that the version has
pub record HasTable (files : Files) (number : ℕ) (placed : Placed) (rows : List Row) : Type 0 where
  pub bytes : List ℕ
  pub there : file_at files (Table number) ≡ Some bytes
  pub table : IsTable bytes rows number placed.info.session
  pub size : length bytes ≡ placed.info.size

-- The version's keys of a table are those of its first and its last row, and its rows have sequences from 1 to the last one.
pub record IsAsListed (info : TableInfo) (rows : List Row) (last : ℕ) : Type 0 where
  pub first : Row
  pub more : List Row
  pub rows_are : rows ≡ first ∷ more
  pub smallest : info.smallest ≡ (row_entry first).key
  pub largest : info.largest ≡ last_key (map row_entry rows)
  pub sequences : All (λ (row : Row). (1 ≤ row.sequence) × (row.sequence ≤ last)) rows

-- Levels are in order; each table's bytes are the text of its rows, so that it can be searched by its index; each is as its
-- version lists it; and no two rows have one sequence.
pub record Lawful (files : Files) : Type 0 where
  pub leveled : (texts : Texts) → texts_in files ≡ Ok texts → IsLeveled (tables_after texts.edits) (rows_of_table texts)
  pub whole : (texts : Texts) (number : ℕ) (placed : Placed) → texts_in files ≡ Ok texts
      → finmap.get (tables_after texts.edits) number ≡ Some placed
      → HasTable files number placed (rows_of_table texts number)
  pub listed : (texts : Texts) (number : ℕ) (placed : Placed) → texts_in files ≡ Ok texts
      → finmap.get (tables_after texts.edits) number ≡ Some placed
      → IsAsListed placed.info (rows_of_table texts number) (last_after texts.edits)
  pub distinct : (all : AllRows) → rows_at files ≡ Ok all → IsDistinct nat_eq (sequences all.rows)

-- the files read as these contents and this sequence, and are lawful
pub record Stands (files : Files) (contents : Contents) (sequence : ℕ) : Type 0 where
  pub read : reading (Stands_with files) ≡ Ok (record { sequence = sequence; contents = contents })
  pub lawful : Lawful files

-- the version of the folder's manifest, if there is one, has no tables
pub record HasNoTables (files : Files) : Type 0 where
  pub none : (edits : List Edit) → edits_at files ≡ Ok edits → tables_after edits ≡ empty_version

-- ---- a folder with one log

-- CURRENT names MANIFEST-000001, which has a new store's edit; and from log 2 on there is one log, of this text.
pub record HasOneLog (files : Files) (text : List ℕ) : Type 0 where
  pub current : file_at files Current ≡ Some (current_text 1)
  pub manifest : file_at files (Manifest 1) ≡ Some (manifest_text (first_edit ∷ []))
  pub log : file_at files (Log 2) ≡ Some text
  pub no_other : (number : ℕ) → 2 < number → file_at files (Log number) ≡ None

-- the same of a folder of a tree, by its paths
pub record HasOneLogAt (dir : List ℕ) (tree : Tree) (text : List ℕ) : Type 0 where
  pub named : 1 ≤ length dir
  pub folder : stands tree.names dir ≡ Some Folder_node
  pub current : bytes_at tree (dir ++ 47 ∷ spelled Current) ≡ Some (current_text 1)
  pub manifest : bytes_at tree (dir ++ 47 ∷ spelled (Manifest 1)) ≡ Some (manifest_text (first_edit ∷ []))
  pub log : bytes_at tree (dir ++ 47 ∷ spelled (Log 2)) ≡ Some text
  pub no_other : (number : ℕ) → 2 < number → id_of (finmap.get tree.names (dir ++ 47 ∷ spelled (Log number))) ≡ None

-- A folder whose one log is cut at a length stands for the first so many of the accepted batches, and for all whose text
-- lies whole before the cut.
pub record IsPrefixShown (files : Files) (accepted : List (List Op)) (cut : ℕ) : Type 0 where
  pub count : ℕ
  pub stands : Stands files (replayed finmap.empty (take count accepted)) (sequence_after 0 (take count accepted))
  pub enough : (durable : ℕ) → durable ≤ length accepted
      → length (wal_text (take durable (in_sequence 1 accepted))) ≤ cut → durable ≤ count

-- ---- a fresh folder

-- a file that a new store may be made beside: a manifest or a temporary file; and no folder under a file's name
abbrev pub is_aside : FileName × Item → Bool
is_aside (Manifest number, A_file bytes) = true
is_aside (Temp number, A_file bytes) = true
is_aside (name, item) = false

-- Nothing stands there; or a folder that has neither CURRENT nor a log nor a table, and no folder under a file's name.
unfoldable pub IsFresh : Place → Type 0
IsFresh Nothing = Unit {0}
IsFresh Not_a_folder = ⊥
IsFresh (Stands_with files) = IsTrue (list_all is_aside (finmap.entries files))
