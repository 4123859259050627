-- What stays where a disk changes within one folder alone that isn't the store's.
use Rattle.std.specs.Prelude.{◌≡◌, ◌≢◌, ℕ, ◌≤◌, ◌<◌, true, false, is_some, List, length, All, Option, Some, None}
use Rattle.std.specs.FinMap as finmap
use Rattle.lsm_names.specs.Folders.{is_folder_name}
use Rattle.lsm_disk.specs.Names.{File_node, is_in}
use Rattle.lsm_disk.specs.State as disk
use Rattle.lsm_disk.specs.State.{FileState, names_now}
use Rattle.lsm_disk.specs.Images.{tree_now}
use Rattle.lsm_disk.specs.Kept.{IsFileNow, OpSpares}
use Rattle.lsm_folder.specs.Parts.{AreLawful}
use Rattle.lsm_model.specs.declared.states.State.{State}
use Rattle.lsm_model.specs.declared.states.FolderRead.{FolderRead}
use Rattle.lsm_model.specs.States.{folder_of}
use Rattle.lsm_model.specs.Reads.{known_reading}
use Rattle.lsm_refine.specs.Kept.{Job, Kept}
use Rattle.lsm_refine.specs.Parts.{Parts}
use Rattle.lsm_refine.specs.Sane.{IsAlone, IsCurrent, HasEdits, HasTables, HasLogs, IsQuiet, AreKnown, AreFiles, AreWritten}
use Rattle.lsm_refine.specs.Folders.{folder_reading, IsSure, ChangesInside}
use Rattle.lsm_refine.specs.Beside.{cut_names}

-- ---- two disks

-- Outside the folder each name leads to a file of a smaller number than this one, now and after each crash, and there are so
-- many files. So what is made in the folder since there were so many has no name outside.
pub record AreOlderOutside (folder : List ℕ) (first : ℕ) (d : disk.State) : Type 0 where
  pub enough : first ≤ length d.files
  pub older : (k id : ℕ) (path : List ℕ) → is_in folder path ≡ false → finmap.get (cut_names d k) path ≡ Some (File_node id) → id < first

-- the later names lead where some crash of the earlier disk left them, but for those of the folder
pub record WereOutside (folder : List ℕ) (d later : disk.State) (k : ℕ) : Type 0 where
  pub count : ℕ
  pub same : (path : List ℕ) → is_in folder path ≡ false → finmap.get (cut_names later k) path ≡ finmap.get (cut_names d count) path

-- From the earlier disk to the later one all that changed is in one folder. Every name outside leads where it led, now and
-- after each crash, and to a file with the same bytes, as many of them synced; no operation that a crash may undo has come
-- that touches one. A file outside that has one name has no second one.
pub record ChangesWithin (folder : List ℕ) (d later : disk.State) : Type 0 where
  pub now : (path : List ℕ) → is_in folder path ≡ false → finmap.get (names_now later) path ≡ finmap.get (names_now d) path
  pub cuts : (k : ℕ) → WereOutside folder d later k
  pub files : (path : List ℕ) (id : ℕ) (f : FileState) → is_in folder path ≡ false → IsFileNow d path id f → IsFileNow later path id f
  pub alone : (path : List ℕ) → is_in folder path ≡ false → IsAlone d path → IsAlone later path
  pub quiet : (path : List ℕ) → is_in folder path ≡ false → All (OpSpares path) d.pending → All (OpSpares path) later.pending
  pub fewer : length d.files ≤ length later.files

-- All of this is so since the earlier disk: only names of the folder have changed, and files that were made when there were so
-- many already; so each image has outside what an image of the earlier disk has.
pub record BuildsWithin (folder : List ℕ) (first : ℕ) (d later : disk.State) : Type 0 where
  pub within : ChangesWithin folder d later
  pub inside : ChangesInside folder d later
  pub older : AreOlderOutside folder first later

-- ---- a store

-- the folder of a checkpoint has a folder's name
abbrev pub IsNamedJob : Option Job → Type 0
IsNamedJob None = Unit {0}
IsNamedJob (Some job) = is_folder_name job.dir ≡ true

-- what is kept, but for a folder that a restore builds
abbrev pub without_restore : Kept → Kept
without_restore kept = record kept { begun = None; hand = None }

-- what a running store keeps of itself is so, but for what it says of the folder that a restore builds
pub record SaneOutside (d : disk.State) (dir : List ℕ) (kept : Kept) (parts : Parts) : Type 0 where
  pub current : IsCurrent d dir kept
  pub edits : HasEdits d dir kept parts.edits
  pub tables : HasTables d dir kept parts.rows
  pub logs : HasLogs d dir kept parts
  pub quiet : IsQuiet d dir kept
  pub known : AreKnown d dir kept
  pub files : AreFiles d dir
  pub lawful : AreLawful parts.edits parts.rows
  pub written : AreWritten d dir (without_restore kept) parts.last.number

-- ---- the folders that a state lists

-- each has a folder's name, and none is the store's own
abbrev pub AreOthers : State → Type 0
AreOthers s = All (λ (entry : FolderRead). (is_folder_name entry.name ≡ true) × (entry.name ≢ s.own)) s.folders

-- The folder reads now as its entry says, and is there if it has one. Where the entry is marked as sure, it does so in each
-- image.
pub record ReadsHere (folder : List ℕ) (d : disk.State) (s : State) : Type 0 where
  pub reads : folder_reading folder (tree_now d) ≡ known_reading folder (folder_of folder s.folders)
  pub taken : is_some (folder_of folder s.folders) ≡ is_some (finmap.get (names_now d) folder)
  pub sure : (entry : FolderRead) → folder_of folder s.folders ≡ Some entry → entry.sure ≡ true → IsSure d entry
