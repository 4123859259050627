-- When what a running store keeps of itself is so on its disk, now and after each crash. No abstract state is in it.
use Rattle.std.specs.Prelude.{◌≡◌, ◌≢◌, ◌⊎◌, ℕ, ◌≤◌, true, is_some, List, [], ◌∷◌, ◌++◌, map, take, length, All, Contains, Option, Some, None, Ok}
use Rattle.std.specs.List.{flat_map}
use Rattle.std.specs.List.Sorted.{IsStrictlySortedBy}
use Rattle.std.specs.Ordering.{nat_cmp}
use Rattle.std.specs.FinMap as finmap
use Rattle.lsm_names.specs.Folders.{is_folder_name}
use Rattle.lsm_names.specs.FileNames.{IsFileName}
use Rattle.lsm_names.specs.declared.file_names.FileName.{FileName}
use Rattle.lsm_names.specs.declared.file_names.FileName.TheVariants.{Log, Table, Manifest, Temp, Current}
use Rattle.lsm_rows.specs.declared.rows.Row.{Row}
use Rattle.lsm_rows.specs.Replay.{sequence_after}
use Rattle.lsm_disk.specs.Names.{Folder_node, File_node, all_named}
use Rattle.lsm_disk.specs.State.{FileState, State, Change, Created, Named, file_at, file_now, names_now}
use Rattle.lsm_disk.specs.Images.{bytes_at, tree_now}
use Rattle.lsm_disk.specs.Kept.{IsKeptName, IsKeptFile, OpSpares, SparesName, Spares}
use Rattle.lsm_disk.specs.Building.{Part, IsBuilding, IsWriting, sealed}
use Rattle.lsm_disk.specs.Dest.{Begun, path_in}
use Rattle.lsm_disk.specs.Viewed.{Viewed}
use Rattle.lsm_wal.specs.Batches.{in_sequence}
use Rattle.lsm_wal.specs.Standing.{IsWal}
use Rattle.lsm_folder.specs.Files.{files_in}
use Rattle.lsm_folder.specs.Names.{current_text}
use Rattle.lsm_table.specs.WholeTables.{IsTable}
use Rattle.lsm_version.specs.declared.tables.Placed.{Placed}
use Rattle.lsm_version.specs.declared.edits.Edit.{Edit}
use Rattle.lsm_folder.specs.Manifests.{tables_after, log_after, last_after, manifest_text}
use Rattle.lsm_folder.specs.Needed.{edits_at}
use Rattle.lsm_folder.specs.Parts.{AreEdits, AreLawful}
use Rattle.lsm_refine.specs.Kept.{KeptPin, Unfinished, Kept}
use Rattle.lsm_refine.specs.Parts.{LogPart, Parts, AreRowsOf, numbers_of, batches_in, logs_of, first_logged, first_in_last}

-- ---- files

-- the file is there with these bytes, now and after each crash
pub record IsWholeFile (d : State) (path bytes : List ℕ) : Type 0 where
  pub id : ℕ
  pub file : IsKeptFile d path id (sealed bytes)

-- the file of this name has no other name, now and after each crash
pub record IsAlone (d : State) (path : List ℕ) : Type 0 where
  pub only : (id k : ℕ) (other : List ℕ) → file_at d path ≡ Some id
      → finmap.get (all_named (take k d.pending) d.durable) other ≡ Some (File_node id) → other ≡ path

-- ---- the folder's parts

-- the folder is there for good, and its CURRENT names the manifest
pub record IsCurrent (d : State) (dir : List ℕ) (kept : Kept) : Type 0 where
  pub named : is_folder_name dir ≡ true
  pub folder : IsKeptName d dir (Some Folder_node)
  pub numbered : IsFileName (Manifest kept.manifest)
  pub file : IsWholeFile d (path_in dir Current) (current_text kept.manifest)

-- the manifest has these edits, which make the version, the log number and the last sequence that are kept
pub record HasEdits (d : State) (dir : List ℕ) (kept : Kept) (edits : List Edit) : Type 0 where
  pub are : AreEdits edits
  pub file : IsWholeFile d (path_in dir (Manifest kept.manifest)) (manifest_text edits)
  pub len : kept.manifest_len ≡ length (manifest_text edits)
  pub version : kept.version ≡ tables_after edits
  pub log : kept.log ≡ log_after edits
  pub last : kept.last ≡ last_after edits

-- A live table is there for good with its rows, and its view tells them, where there is one: a view that failed is closed,
-- and another can't always be opened.
pub record HasTable (d : State) (dir : List ℕ) (kept : Kept) (number : ℕ) (placed : Placed) (rows : List Row) : Type 0 where
  pub numbered : IsFileName (Table number)
  pub bytes : List ℕ
  pub file : IsWholeFile d (path_in dir (Table number)) bytes
  pub table : IsTable bytes rows number placed.info.session
  pub size : length bytes ≡ placed.info.size
  pub viewed : (view : Viewed) → finmap.get kept.views number ≡ Some view → view.bytes ≡ Some bytes

-- so is each live table
pub record HasTables (d : State) (dir : List ℕ) (kept : Kept) (rows : ℕ → List Row) : Type 0 where
  pub each : (number : ℕ) (placed : Placed) → finmap.get kept.version number ≡ Some placed → HasTable d dir kept number placed (rows number)

-- All bytes of each table that the folder's manifest now names are synced, whatever the manifest is.
abbrev pub TablesAreSynced : State → List ℕ → Type 0
TablesAreSynced d dir = (edits : List Edit) (number : ℕ) (placed : Placed) → edits_at (files_in dir (tree_now d)) ≡ Ok edits
    → finmap.get (tables_after edits) number ≡ Some placed → (file_now (path_in dir (Table number)) d).unsynced ≡ []

-- logs from a sequence on, each behind the one before it, are there with all their batches, which are synced
abbrev pub AreSynced : State → List ℕ → ℕ → List LogPart → Type 0
AreSynced d dir first [] = Unit {0}
AreSynced d dir first (log ∷ logs) =
    IsWal d (path_in dir (Log log.number)) (in_sequence first log.batches) (length log.batches)
    × AreSynced d dir (sequence_after first log.batches) logs

-- a log of this number may be: from the log number on only live ones are there
abbrev pub MayStand : State → List ℕ → Kept → ℕ → Type 0
MayStand d dir kept number = Contains kept.logs number ⊎ (file_at d (path_in dir (Log number)) ≡ None)

-- The live logs are there, by rising numbers, the older ones synced; no other log is there from the log number on. The frozen
-- rows are those of the older logs, and the active rows those of the last one.
pub record HasLogs (d : State) (dir : List ℕ) (kept : Kept) (parts : Parts) : Type 0 where
  pub numbers : kept.logs ≡ numbers_of (logs_of parts)
  pub ascend : IsStrictlySortedBy nat_cmp kept.logs
  pub live : All (λ (number : ℕ). (kept.log ≤ number) × IsFileName (Log number)) kept.logs
  pub older : AreSynced d dir (first_logged parts) parts.older
  pub last : IsWal d (path_in dir (Log parts.last.number)) (in_sequence (first_in_last parts) parts.last.batches) parts.synced
  pub only : (number : ℕ) → kept.log ≤ number → IsFileName (Log number) → MayStand d dir kept number
  pub frozen : AreRowsOf (first_logged parts) (batches_in parts.older) kept.frozen
  pub active : AreRowsOf (first_in_last parts) parts.last.batches kept.active

-- ---- names

-- the name is needed: CURRENT, the manifest, a live table, or any log from the log number on
abbrev pub IsNeeded : Kept → FileName → Type 0
IsNeeded kept Current = Unit {0}
IsNeeded kept (Manifest number) = number ≡ kept.manifest
IsNeeded kept (Table number) = is_some (finmap.get kept.version number) ≡ true
IsNeeded kept (Log number) = kept.log ≤ number
IsNeeded kept (Temp number) = ⊥

-- the names that a pin holds
abbrev pub names_held : KeptPin → List FileName
names_held pin = map (λ (file : FileName × ℕ). file.0) pin.files

-- the names that are needed and those that pins hold
abbrev pub IsHeld : Kept → FileName → Type 0
IsHeld kept name = IsNeeded kept name ⊎ Contains (flat_map names_held kept.pins) name

-- No operation on names that a crash may undo touches a needed or a pinned name. So a file's unlink comes after what made
-- the file unneeded.
pub record IsQuiet (d : State) (dir : List ℕ) (kept : Kept) : Type 0 where
  pub spares : (name : FileName) → IsFileName name → IsHeld kept name → All (OpSpares (path_in dir name)) d.pending

-- the known names are those of the store's files in the folder, each of which is a file's
pub record AreKnown (d : State) (dir : List ℕ) (kept : Kept) : Type 0 where
  pub there : (name : FileName) → Contains kept.known name → IsFileName name × (is_some (file_at d (path_in dir name)) ≡ true)
  pub all : (name : FileName) → IsFileName name → is_some (finmap.get (names_now d) (path_in dir name)) ≡ true → Contains kept.known name

-- No folder stands under a name of a store's file, now and after each crash. So a file is made wherever no file is.
pub record AreFiles (d : State) (dir : List ℕ) : Type 0 where
  pub no_folder : (name : FileName) (k : ℕ) → IsFileName name
      → finmap.get (all_named (take k d.pending) d.durable) (path_in dir name) ≢ Some Folder_node

-- ---- files that are still written

-- the path of the file that a restore has in hand
abbrev pub in_hand : Option Begun → Option FileName → List (List ℕ)
in_hand (Some begun) (Some name) = path_in begun.folder name ∷ []
in_hand begun hand = []

-- the paths that are still appended to: the manifest, the last log, unfinished tables, and what a restore has in hand
abbrev pub appended_to : List ℕ → Kept → ℕ → List (List ℕ)
appended_to dir kept log =
    path_in dir (Manifest kept.manifest) ∷ path_in dir (Log log)
    ∷ map (λ (table : Unfinished). path_in dir (Table table.number)) kept.unfinished
    ++ in_hand kept.begun kept.hand

-- the tables that are being written have the bytes that they were given, and no file that is still appended to has two names
pub record AreWritten (d : State) (dir : List ℕ) (kept : Kept) (log : ℕ) : Type 0 where
  pub tables : All (λ (table : Unfinished). bytes_at (tree_now d) (path_in dir (Table table.number)) ≡ Some table.bytes) kept.unfinished
  pub alone : All (IsAlone d) (appended_to dir kept log)

-- ---- a folder that a restore builds

-- it has these parts, and the file in hand, if there is one
abbrev pub HasBegun : State → Begun → List Part → Option FileName → State → Type 0
HasBegun start begun parts None d = IsBuilding start begun parts d
HasBegun start begun parts (Some name) d = (file : FileState) × IsWriting start begun parts name file d

-- The begun folder is another than the store's own. It has whole files, all synced, and the one in hand, and nothing else. A
-- crash leaves it without `CURRENT`, or as one left it when it was begun.
pub record BuildsFolder (d : State) (dir : List ℕ) (begun : Begun) (hand : Option FileName) : Type 0 where
  pub named : is_folder_name begun.folder ≡ true
  pub apart : begun.folder ≢ dir
  pub start : State
  pub parts : List Part
  pub has : HasBegun start begun parts hand d

-- where a folder is begun it is so; else no file is in hand
abbrev pub RestoreBuilds : State → List ℕ → Option Begun → Option FileName → Type 0
RestoreBuilds d dir None hand = hand ≡ None
RestoreBuilds d dir (Some begun) hand = BuildsFolder d dir begun hand

-- ---- all of it

-- what a running store keeps of itself is so, its folder being made of these parts
pub record Sane (d : State) (dir : List ℕ) (kept : Kept) (parts : Parts) : Type 0 where
  pub current : IsCurrent d dir kept
  pub edits : HasEdits d dir kept parts.edits
  pub tables : HasTables d dir kept parts.rows
  pub logs : HasLogs d dir kept parts
  pub quiet : IsQuiet d dir kept
  pub known : AreKnown d dir kept
  pub files : AreFiles d dir
  pub lawful : AreLawful parts.edits parts.rows
  pub written : AreWritten d dir kept parts.last.number
  pub restored : RestoreBuilds d dir kept.begun kept.hand

-- ---- what a change leaves

-- the change leaves the store's folder, and each needed file in it but the last log
pub record SparesNeeded (d : State) (dir : List ℕ) (kept : Kept) (last : ℕ) (c : Change) : Type 0 where
  pub folder : SparesName dir c
  pub files : (name : FileName) (id : ℕ) → IsFileName name → IsNeeded kept name → name ≢ Log last → file_at d (path_in dir name) ≡ Some id
      → Spares (path_in dir name) id c

-- the log is a live one, and not the last
abbrev pub IsOlder : Kept → ℕ → LogPart → Type 0
IsOlder kept last log = IsFileName (Log log.number) × (kept.log ≤ log.number) × (log.number ≢ last)

-- the change moves no name
abbrev pub KeepsNames : Change → Type 0
KeepsNames (Created path) = ⊥
KeepsNames (Named op) = ⊥
KeepsNames other = Unit {0}
