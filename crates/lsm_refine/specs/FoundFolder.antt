-- What an opening reads of a folder that stands, and what it makes of it: the rows of its logs go
-- into a table, a new manifest says all tables, and a new log is begun.
use Rattle.std.specs.Prelude.{◌≡◌, ◌≢◌, ◌⊎◌, ◌↔◌, ℕ, ◌+◌, ◌^◌, ◌<◌, ◌≤◌, true, is_some, List, [], ◌∷◌, ◌++◌, length, All, Contains, Option, Some, None, Ok}
use Rattle.std.specs.Ordering.{nat_cmp}
use Rattle.std.specs.FinMap as finmap
use Rattle.lsm_names.specs.FileNames.{IsFileName}
use Rattle.lsm_names.specs.declared.file_names.FileName.{FileName}
use Rattle.lsm_names.specs.declared.file_names.FileName.TheVariants.{Log, Table, Manifest}
use Rattle.lsm_rows.specs.declared.operations.Op.{Op}
use Rattle.lsm_rows.specs.declared.rows.Row.{Row}
use Rattle.lsm_rows.specs.Contents.{contents_of}
use Rattle.lsm_rows.specs.Replay.{Contents, sequence_after}
use Rattle.lsm_rows.specs.Rows.{rows_of}
use Rattle.lsm_disk.specs.Names.{Folder_node}
use Rattle.lsm_disk.specs.State as disk
use Rattle.lsm_disk.specs.State.{Seen, names_now}
use Rattle.lsm_disk.specs.Images.{bytes_at, tree_now}
use Rattle.lsm_disk.specs.Dest.{path_in}
use Rattle.lsm_disk.specs.Viewed.{Viewed}
use Rattle.lsm_table.specs.WholeTables.{IsTable}
use Rattle.lsm_version.specs.declared.edits.Edit.{Edit}
use Rattle.lsm_version.specs.declared.tables.Add.{Add}
use Rattle.lsm_version.specs.declared.tables.Placed.{Placed}
use Rattle.lsm_version.specs.declared.tables.TableInfo.{TableInfo}
use Rattle.lsm_version.specs.Edits as version
use Rattle.lsm_version.specs.Levels.{Tables}
use Rattle.lsm_folder.specs.Files.{Files, files_in}
use Rattle.lsm_folder.specs.Logs.{logs_of, all_batches}
use Rattle.lsm_folder.specs.Manifests.{manifest_text, tables_after, log_after, last_after}
use Rattle.lsm_folder.specs.Needed.{HasTable, edits_at}
use Rattle.lsm_folder.specs.Parts.{AreEdits, AreLawful, rows_of_tables}
use Rattle.lsm_refine.specs.Kept.{Kept, Shown}
use Rattle.lsm_refine.specs.Parts.{AreRowsOf}
use Rattle.lsm_refine.specs.Sane.{IsWholeFile, IsAlone}
use Rattle.lsm_refine.specs.Among.{ChangesAmong, switched_names}
use Rattle.lsm_refine.specs.Folders.{ChangesInside}
use Rattle.lsm_refine.specs.Flushed.{AreFlushed, HasKeys, at_top, rows_with}
use Rattle.lsm_refine.specs.Grown.{IsDrawn}
use Rattle.lsm_refine.specs.Naming.{HasReplaced}
use Rattle.lsm_refine.specs.WholeEdits.{AddAll, whole_edit}

-- ---- as data

-- a table that an opening writes: what an edit says of it, and its rows
pub record NewTable : Type 0 where
  pub info : TableInfo
  pub rows : List Row

-- What an opening reads of a folder: the edits of its manifest, the batches of its logs, the names
-- of its files, and the next file number. And what it makes of these: the table of the logs' rows,
-- if there are any, and the tables that the new manifest adds.
pub record Recovery : Type 0 where
  pub edits : List Edit
  pub batches : List (List Op)
  pub names : List FileName
  pub next : ℕ
  pub table : Option NewTable
  pub adds : List Add

-- the last sequence of the folder
abbrev pub last_found : Recovery → ℕ
last_found r = sequence_after (last_after r.edits) r.batches

-- ---- the numbers: of the table, where there is one, of the manifest, and of the log

-- the number behind the table's
abbrev pub number_behind : Option NewTable → ℕ → ℕ
number_behind None next = next
number_behind (Some new) next = next + 1

abbrev pub new_manifest : Recovery → ℕ
new_manifest r = number_behind r.table r.next

abbrev pub new_log : Recovery → ℕ
new_log r = new_manifest r + 1

abbrev pub table_names : Option NewTable → List FileName
table_names None = []
table_names (Some new) = Table new.info.number ∷ []

-- the names of the files that stay there
abbrev pub added_names : Recovery → List FileName
added_names r = table_names r.table ++ Manifest (new_manifest r) ∷ Log (new_log r) ∷ []

-- the names that change: these, the manifest's temporary one, and CURRENT
abbrev pub opening_names : Recovery → List FileName
opening_names r = table_names r.table ++ (switched_names (new_manifest r) (new_manifest r) ++ Log (new_log r) ∷ [])

-- ---- the edit

-- the version with the table at level 0, and the rows of its tables by their numbers
abbrev pub version_with : Option NewTable → Tables → Tables
version_with None tables = tables
version_with (Some new) tables = finmap.insert tables new.info.number (at_top new.info)

abbrev pub rows_beside : Option NewTable → (ℕ → List Row) → ℕ → List Row
rows_beside None rows = rows
rows_beside (Some new) rows = rows_with new.info.number new.rows rows

abbrev pub new_version : Recovery → Tables
new_version r = version_with r.table (tables_after r.edits)

-- the new manifest's one edit
abbrev pub opening_edit : Recovery → Edit
opening_edit r = whole_edit r.adds (new_log r) (new_log r + 1) (last_found r)

abbrev pub opening_edits : Recovery → List Edit
opening_edits r = opening_edit r ∷ []

-- ---- what is read, and how the table is made of it

-- The table has the rows of these batches, of which there are some, in the order in which they
-- stand in memory: each key's newest row is the same. What is said of it an edit may say.
pub record IsTableOf (first : ℕ) (batches : List (List Op)) (new : NewTable) : Type 0 where
  pub frozen : List Row
  pub are : AreRowsOf first batches frozen
  pub some : frozen ≢ []
  pub picked : AreFlushed frozen new.rows
  pub keys : HasKeys new.info new.rows
  pub said : version.IsTable new.info

-- there is no table where there is no row, or it has the next number
abbrev pub TakesRows : ℕ → List (List Op) → ℕ → Option NewTable → Type 0
TakesRows first batches next None = rows_of first batches ≡ []
TakesRows first batches next (Some new) = (new.info.number ≡ next) × IsTableOf first batches new

-- the folder's manifest has these edits, and its logs these batches
pub record IsReadFrom (files : Files) (r : Recovery) : Type 0 where
  pub edits_are : edits_at files ≡ Ok r.edits
  pub batches_are : all_batches (last_after r.edits + 1) (finmap.entries (logs_of (log_after r.edits) files)) ≡ Ok r.batches

-- The names are those of a store's files that stand in the folder now, whatever has them.
pub record AreNamesIn (d : disk.State) (dir : List ℕ) (names : List FileName) : Type 0 where
  pub fit : All IsFileName names
  pub are : (name : FileName) → IsFileName name
      → Contains names name ↔ (is_some (finmap.get (names_now d) (path_in dir name)) ≡ true)

-- The edit is made of what was read: the numbers come behind those of all names, the table has the
-- logs' rows, and each table is added. The last of the numbers is a file's, and so is the last
-- sequence one of a row's.
pub record IsPlanned (r : Recovery) : Type 0 where
  pub some : 1 ≤ r.next
  pub behind : All (IsDrawn r.next) r.names
  pub fits : IsFileName (Log (new_log r))
  pub last_fits : last_found r < 2 ^ 56
  pub takes : TakesRows (last_after r.edits + 1) r.batches r.next r.table
  pub adds : AddAll (new_version r) r.adds

-- so it is with the folder that the disk has now
pub record IsRecovery (d : disk.State) (dir : List ℕ) (r : Recovery) : Type 0 where
  pub folder : finmap.get (names_now d) dir ≡ Some Folder_node
  pub read : IsReadFrom (files_in dir (tree_now d)) r
  pub names : AreNamesIn d dir r.names
  pub planned : IsPlanned r

-- What the folder's files stood for is in the new manifest's version: the tables that were found
-- are there with these rows; the edit is in the grammar and makes the version; and its tables are
-- lawful and stand for these contents and this sequence.
pub record SaysFound (files : Files) (r : Recovery) (contents : Contents) (sequence : ℕ) : Type 0 where
  pub rows : ℕ → List Row
  pub tables : (number : ℕ) (placed : Placed) → finmap.get (tables_after r.edits) number ≡ Some placed
      → HasTable files number placed (rows number)
  pub are : AreEdits (opening_edits r)
  pub version : tables_after (opening_edits r) ≡ new_version r
  pub lawful : AreLawful (opening_edits r) (rows_beside r.table rows)
  pub shows : contents_of (rows_of_tables (tables_after (opening_edits r)) (rows_beside r.table rows)) ≡ contents
  pub log : log_after (opening_edits r) ≡ new_log r
  pub last : last_after (opening_edits r) ≡ sequence

-- ---- on the disk

-- the table's file is there for good with its rows
pub record IsTableFile (d : disk.State) (dir : List ℕ) (new : NewTable) : Type 0 where
  pub bytes : List ℕ
  pub file : IsWholeFile d (path_in dir (Table new.info.number)) bytes
  pub table : IsTable bytes new.rows new.info.number new.info.session
  pub size : length bytes ≡ new.info.size

abbrev pub HasNewTable : disk.State → List ℕ → Option NewTable → Type 0
HasNewTable d dir None = Unit {0}
HasNewTable d dir (Some new) = IsTableFile d dir new

-- From the earlier disk to the later one an opening has come behind its switch of CURRENT: nothing
-- has changed but at its names, all inside the folder. The table is there, and CURRENT names the
-- new manifest; all names are synced.
pub record HasSwitched (d later : disk.State) (dir : List ℕ) (r : Recovery) : Type 0 where
  pub among : ChangesAmong dir (opening_names r) d later
  pub inside : ChangesInside dir d later
  pub table : HasNewTable later dir r.table
  pub replaced : HasReplaced later dir (new_manifest r) (opening_edits r)

-- From the earlier disk to the later one an opening has gone whole: nothing has changed but at its
-- names, all inside the folder. The table is there, CURRENT names the new manifest, the new log is
-- empty and has no other name, and all names are synced.
pub record HasRecovered (d later : disk.State) (dir : List ℕ) (r : Recovery) : Type 0 where
  pub among : ChangesAmong dir (opening_names r) d later
  pub inside : ChangesInside dir d later
  pub table : HasNewTable later dir r.table
  pub replaced : HasReplaced later dir (new_manifest r) (opening_edits r)
  pub log : IsWholeFile later (path_in dir (Log (new_log r))) []
  pub alone : IsAlone later (path_in dir (Log (new_log r)))

-- ---- the store

-- each view tells the bytes of its table's file on the later disk, or a view of a table that was
-- found those on the earlier one
abbrev pub TellTables : disk.State → disk.State → List ℕ → Recovery → finmap.FinMap nat_cmp Viewed → Type 0
TellTables d later dir r views = (number : ℕ) (view : Viewed) → finmap.get views number ≡ Some view
    → ((is_some (finmap.get (tables_after r.edits) number) ≡ true)
    × (view.bytes ≡ bytes_at (tree_now d) (path_in dir (Table number))))
    ⊎ (view.bytes ≡ bytes_at (tree_now later) (path_in dir (Table number)))

-- the known names are those from before, and those of the new files
abbrev pub HasAdded : Recovery → List FileName → Type 0
HasAdded r known = (name : FileName) → Contains known name ↔ (Contains r.names name ⊎ Contains (added_names r) name)

-- the store keeps the version with the table, no row in memory, the new log alone, and no pin and
-- no work
abbrev pub recovered_kept : Recovery → finmap.FinMap nat_cmp Viewed → List FileName → Kept
recovered_kept r views known = record {
  version = new_version r;
  views = views;
  log = new_log r;
  last = last_found r;
  sequence = last_found r;
  active = [];
  frozen = [];
  logs = new_log r ∷ [];
  log_len = 0;
  older_len = 0;
  manifest = new_manifest r;
  manifest_len = length (manifest_text (opening_edits r));
  next = new_log r + 1;
  known = known;
  pins = [];
  greatest_pin = 0;
  disables = 0;
  flushing = record { taken = 0; table = None };
  unfinished = [];
  merging = None;
  merge_level = 0;
  outputs = 0;
  merged = 0;
  begun = None;
  hand = None;
}

abbrev pub recovered_store : Seen → List ℕ → Recovery → finmap.FinMap nat_cmp Viewed → List FileName → Shown
recovered_store seen dir r views known = record { disk = seen; dir = dir; kept = recovered_kept r views known; halt = None }
