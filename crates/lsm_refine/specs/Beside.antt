-- What stays where a disk changes at one file of the store's folder alone.
use Rattle.std.specs.Prelude.{◌≡◌, ◌≢◌, ◌⊎◌, ℕ, ◌≤◌, List, take, length, All, Some}
use Rattle.std.specs.List.Sorted.{IsStrictlySortedBy}
use Rattle.std.specs.Ordering.{nat_cmp}
use Rattle.std.specs.FinMap as finmap
use Rattle.lsm_names.specs.FileNames.{IsFileName}
use Rattle.lsm_names.specs.declared.file_names.FileName.{FileName}
use Rattle.lsm_names.specs.declared.file_names.FileName.TheVariants.{Log, Table, Manifest}
use Rattle.lsm_disk.specs.Names.{Folder_node, File_node, Names, all_named}
use Rattle.lsm_disk.specs.State as disk
use Rattle.lsm_disk.specs.State.{FileState, Change, Created, Named, Appended, Synced, Names_synced, Idle, file_at, names_now}
use Rattle.lsm_disk.specs.Images.{bytes_at, tree_now}
use Rattle.lsm_disk.specs.Kept.{IsFileNow, OpSpares}
use Rattle.lsm_disk.specs.Tree.{LeadsToFiles}
use Rattle.lsm_disk.specs.Dest.{path_in}
use Rattle.lsm_wal.specs.Batches.{Logged, in_sequence}
use Rattle.lsm_wal.specs.Standing.{IsWal}
use Rattle.lsm_folder.specs.Parts.{AreLawful}
use Rattle.lsm_model.specs.declared.states.State.{State}
use Rattle.lsm_model.specs.declared.states.Pin.{Pin}
use Rattle.lsm_model.specs.declared.states.PinnedFile.{PinnedFile}
use Rattle.lsm_refine.specs.Kept.{Unfinished, Kept}
use Rattle.lsm_refine.specs.Parts.{Parts, AreRowsOf, numbers_of, batches_in, logs_of, first_logged, first_in_last}
use Rattle.lsm_refine.specs.Sane.{IsAlone, IsCurrent, HasEdits, HasTables, AreSynced, MayStand, IsNeeded, IsQuiet, AreKnown, AreFiles, RestoreBuilds, appended_to}
use Rattle.lsm_refine.specs.Pins.{AreClearable, PinFiles, JobsBuild}
use Rattle.lsm_refine.specs.Folders.{ChangesInside}

-- ---- two disks

-- the names that a crash leaves which keeps the first so many of the operations that it may undo
abbrev pub cut_names : disk.State → ℕ → Names
cut_names d k = all_named (take k d.pending) d.durable

-- a crash of the disk may leave these names, or they are those of now but for one path
abbrev pub WereNames : List ℕ → disk.State → Names → Type 0
WereNames path d names = ((k : ℕ) × (names ≡ cut_names d k))
    ⊎ ((other : List ℕ) → other ≢ path → finmap.get names other ≡ finmap.get (names_now d) other)

-- each name leads to a file that was made, now and after each crash
abbrev pub LeadToFiles : disk.State → Type 0
LeadToFiles d = (k : ℕ) → LeadsToFiles (cut_names d k) (length d.files)

-- no folder stands at the path, now and after each crash
abbrev pub NeverFolder : List ℕ → disk.State → Type 0
NeverFolder path d = (k : ℕ) → finmap.get (cut_names d k) path ≢ Some Folder_node

-- From the earlier disk to the later one all that changed is what one path leads to. Every other name leads where it led, now
-- and after each crash, and to a file with the same bytes, as many of them synced; no operation that a crash may undo has come
-- that touches one. A file that has one name has no second one, and no folder has come at the path.
pub record ChangesAt (path : List ℕ) (d later : disk.State) : Type 0 where
  pub now : (other : List ℕ) → other ≢ path → finmap.get (names_now later) other ≡ finmap.get (names_now d) other
  pub cuts : (k : ℕ) → WereNames path d (cut_names later k)
  pub files : (other : List ℕ) (id : ℕ) (f : FileState) → other ≢ path → IsFileNow d other id f → IsFileNow later other id f
  pub alone : (other : List ℕ) → IsAlone d other → IsAlone later other
  pub quiet : (other : List ℕ) → other ≢ path → All (OpSpares other) d.pending → All (OpSpares other) later.pending
  pub fewer : length d.files ≤ length later.files
  pub no_folder : NeverFolder path d → NeverFolder path later

-- From the earlier disk to the later one no name has moved, and of all files only this one of the folder has changed, by
-- growing or by being synced.
pub record WritesAt (dir : List ℕ) (name : FileName) (d later : disk.State) : Type 0 where
  pub at : ChangesAt (path_in dir name) d later
  pub names : names_now later ≡ names_now d
  pub quiet : (other : List ℕ) → All (OpSpares other) d.pending → All (OpSpares other) later.pending
  pub pinned : (files : List PinnedFile) → PinFiles d dir files → PinFiles later dir files
  pub inside : ChangesInside dir d later

-- the making and the writing of the file of this number at one path
abbrev pub WritesNew : List ℕ → ℕ → Change → Type 0
WritesNew path id (Created other) = other ≡ path
WritesNew path id (Named op) = ⊥
WritesNew path id (Appended k bytes) = k ≡ id
WritesNew path id (Synced k) = k ≡ id
WritesNew path id Names_synced = Unit {0}
WritesNew path id Idle = Unit {0}

-- From the earlier disk to the later one nothing has changed but at one name of the folder, where a new file may have been made
-- and written, which no other name leads to.
pub record MakesAt (dir : List ℕ) (name : FileName) (d later : disk.State) : Type 0 where
  pub at : ChangesAt (path_in dir name) d later
  pub lead : LeadToFiles later
  pub only : (k : ℕ) (other : List ℕ) → finmap.get (cut_names later k) other ≡ Some (File_node (length d.files))
      → other ≡ path_in dir name
  pub inside : ChangesInside dir d later

-- the name leads to this file, which has no other
pub record IsLone (d : disk.State) (dir : List ℕ) (name : FileName) (id : ℕ) : Type 0 where
  pub fits : IsFileName name
  pub there : file_at d (path_in dir name) ≡ Some id
  pub alone : IsAlone d (path_in dir name)

-- ---- a store whose disk is in the midst of such changes

-- The name is that of a file that a store may be writing: its last log, its manifest, or one that isn't needed, as a table
-- that no edit names yet.
abbrev pub MayBeWritten : Kept → ℕ → FileName → Type 0
MayBeWritten kept last name = (name ≡ Log last) ⊎ (name ≡ Manifest kept.manifest) ⊎ ¬ IsNeeded kept name

-- the live logs as a running store has them, but for what stands in the last one
pub record HasOlderLogs (d : disk.State) (dir : List ℕ) (kept : Kept) (parts : Parts) : Type 0 where
  pub numbers : kept.logs ≡ numbers_of (logs_of parts)
  pub ascend : IsStrictlySortedBy nat_cmp kept.logs
  pub live : All (λ (number : ℕ). (kept.log ≤ number) × IsFileName (Log number)) kept.logs
  pub older : AreSynced d dir (first_logged parts) parts.older
  pub only : (number : ℕ) → kept.log ≤ number → IsFileName (Log number) → MayStand d dir kept number
  pub frozen : AreRowsOf (first_logged parts) (batches_in parts.older) kept.frozen

-- the last log's path, and its batches
abbrev pub last_path : List ℕ → Parts → List ℕ
last_path dir parts = path_in dir (Log parts.last.number)

abbrev pub last_batches : Parts → List Logged
last_batches parts = in_sequence (first_in_last parts) parts.last.batches

-- the last log has its batches, at least so many of them synced
abbrev pub HasLast : disk.State → List ℕ → Parts → ℕ → Type 0
HasLast d dir parts many = IsWal d (last_path dir parts) (last_batches parts) many

-- What an image of the folder reads by beside the last log: CURRENT, the manifest, the tables and the older logs are so, and
-- no operation that a crash may undo touches a log's name from the log number on.
pub record IsReadable (d : disk.State) (dir : List ℕ) (kept : Kept) (parts : Parts) : Type 0 where
  pub current : IsCurrent d dir kept
  pub edits : HasEdits d dir kept parts.edits
  pub tables : HasTables d dir kept parts.rows
  pub logs : HasOlderLogs d dir kept parts
  pub quiet : (number : ℕ) → kept.log ≤ number → IsFileName (Log number) → All (OpSpares (path_in dir (Log number))) d.pending

-- the table's file, if it is another than this one, has the bytes that it was given
abbrev pub IsGiven : disk.State → List ℕ → FileName → Unfinished → Type 0
IsGiven d dir name table = path_in dir (Table table.number) ≢ path_in dir name
    → bytes_at (tree_now d) (path_in dir (Table table.number)) ≡ Some table.bytes

-- what a running store keeps of itself is so, but for what it says of one file's bytes
pub record SaneBeside (d : disk.State) (dir : List ℕ) (kept : Kept) (parts : Parts) (name : FileName) : Type 0 where
  pub current : IsCurrent d dir kept
  pub edits : name ≢ Manifest kept.manifest → HasEdits d dir kept parts.edits
  pub tables : HasTables d dir kept parts.rows
  pub logs : HasOlderLogs d dir kept parts
  pub last : name ≢ Log parts.last.number → HasLast d dir parts parts.synced
  pub quiet : IsQuiet d dir kept
  pub known : AreKnown d dir kept
  pub files : AreFiles d dir
  pub lawful : AreLawful parts.edits parts.rows
  pub given : All (IsGiven d dir name) kept.unfinished
  pub alone : All (IsAlone d) (appended_to dir kept parts.last.number)
  pub restored : RestoreBuilds d dir kept.begun kept.hand

-- Since the start the store has written this file alone, and all else that a good store has on its disk is so still.
pub record Beside (start : disk.State) (dir : List ℕ) (kept : Kept) (parts : Parts) (s : State) (name : FileName)
    (d : disk.State) : Type 0 where
  pub sane : SaneBeside d dir kept parts name
  pub pinned : All (λ (pin : Pin). PinFiles d dir pin.files) s.pins
  pub jobs : JobsBuild d dir kept.pins s
  pub clear : AreClearable d
  pub inside : ChangesInside dir start d
