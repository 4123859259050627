-- A new store, as an opening leaves it where no store was. Files of an opening that a crash cut off may stand beside.
use Rattle.std.specs.Prelude.{◌≡◌, ◌≢◌, ℕ, ◌+◌, ◌^◌, ◌<◌, ◌≤◌, max, true, List, [], ◌∷◌, ◌++◌, length, All, Some, None}
use Rattle.std.specs.FinMap as finmap
use Rattle.lsm_names.specs.Folders.{is_folder_name}
use Rattle.lsm_names.specs.FileNames.{IsFileName, spelled}
use Rattle.lsm_names.specs.declared.file_names.FileName.{FileName}
use Rattle.lsm_names.specs.declared.file_names.FileName.TheVariants.{Log, Table, Manifest, Temp, Current}
use Rattle.lsm_disk.specs.Names.{Folder_node, File_node}
use Rattle.lsm_disk.specs.State as disk
use Rattle.lsm_disk.specs.State.{Seen}
use Rattle.lsm_disk.specs.Dest.{path_in}
use Rattle.lsm_disk.specs.Kept.{IsKeptName}
use Rattle.lsm_disk.specs.Building.{Part, IsKeptPart, names_of}
use Rattle.lsm_folder.specs.Names.{current_text}
use Rattle.lsm_version.specs.declared.edits.Edit.{Edit}
use Rattle.lsm_version.specs.Versions.{empty_version}
use Rattle.lsm_folder.specs.Manifests.{manifest_text}
use Rattle.lsm_model.specs.declared.states.State.{State}
use Rattle.lsm_model.specs.declared.states.FolderRead.{FolderRead}
use Rattle.lsm_model.specs.Plain.{empty_state}
use Rattle.lsm_refine.specs.Disks.{folder_disk}
use Rattle.lsm_refine.specs.Kept.{Kept, Shown}
use Rattle.lsm_refine.specs.Sane.{IsAlone}
use Rattle.lsm_refine.specs.Pins.{AreClearable}

-- the number in a file's name, 0 where there is none
abbrev pub number_in : FileName → ℕ
number_in (Log number) = number
number_in (Table number) = number
number_in (Manifest number) = number
number_in (Temp number) = number
number_in Current = 0

-- the next number of a folder with these names: one past the greatest in them, and 1 where there is none
abbrev pub next_number : List FileName → ℕ
next_number [] = 1
next_number (name ∷ names) = max (number_in name + 1) (next_number names)

-- The first edit, where the manifest has this number: logs are needed from the next number on, the one behind it comes next,
-- and no sequence and no table is there.
abbrev pub first_edit : ℕ → Edit
first_edit m = record { log = Some (m + 1); next = Some (m + 2); last = Some 0; adds = []; drops = [] }

abbrev pub first_manifest : ℕ → List ℕ
first_manifest m = manifest_text (first_edit m ∷ [])

-- its files: CURRENT, the manifest of that edit, and an empty log
abbrev pub new_files : ℕ → List Part
new_files m =
    (record { name = Current; bytes = current_text m })
    ∷ (record { name = Manifest m; bytes = first_manifest m })
    ∷ (record { name = Log (m + 1); bytes = [] })
    ∷ []

-- the names of its files, and those of the files beside
abbrev pub new_names : ℕ → List FileName → List FileName
new_names m beside = names_of (new_files m) ++ beside

-- an earlier opening's file: it has a number, which comes before the manifest's
abbrev pub IsLeftover : ℕ → FileName → Type 0
IsLeftover m Current = ⊥
IsLeftover m (Log number) = IsFileName (Log number) × (number < m)
IsLeftover m (Table number) = IsFileName (Table number) × (number < m)
IsLeftover m (Manifest number) = IsFileName (Manifest number) × (number < m)
IsLeftover m (Temp number) = IsFileName (Temp number) × (number < m)

-- a file of some bytes stands under the name for good
pub record IsThere (d : disk.State) (dir : List ℕ) (name : FileName) : Type 0 where
  pub id : ℕ
  pub named : IsKeptName d (path_in dir name) (Some (File_node id))

-- The disk has a new store's folder, with a manifest of this number: its files, those beside, and no other of a store's names,
-- now and after each crash; all names are synced; the files that are appended to have no other name; and a checkpoint may be
-- built. Where the number is the folder's next one, an opening has drawn it, and each file from before has a lower one.
pub record HasNewStore (d : disk.State) (dir : List ℕ) (m : ℕ) (beside : List FileName) : Type 0 where
  pub named : is_folder_name dir ≡ true
  pub least : 1 ≤ m
  pub most : m + 2 < 2 ^ 56
  pub earlier : All (IsLeftover m) beside
  pub settled : d.pending ≡ []
  pub stands : IsKeptName d dir (Some Folder_node)
  pub each : All (IsKeptPart dir d) (new_files m)
  pub there : All (IsThere d dir) beside
  pub only : (name : FileName) → IsFileName name → All (λ (n : FileName). spelled name ≢ spelled n) (new_names m beside)
      → IsKeptName d (path_in dir name) None
  pub alone : All (IsAlone d) (path_in dir (Manifest m) ∷ path_in dir (Log (m + 1)) ∷ [])
  pub clear : AreClearable d

-- what a new store keeps: no table, no row, one log and no pin
abbrev pub new_kept : ℕ → List FileName → Kept
new_kept m beside = record {
  version = empty_version;
  views = finmap.empty;
  log = m + 1;
  last = 0;
  sequence = 0;
  active = [];
  frozen = [];
  logs = (m + 1) ∷ [];
  log_len = 0;
  older_len = 0;
  manifest = m;
  manifest_len = length (first_manifest m);
  next = m + 2;
  known = new_names m beside;
  pins = [];
  greatest_pin = 0;
  disables = 0;
  flushing = record { taken = 0; table = None };
  unfinished = [];
  merging = None;
  merge_level = 0;
  outputs = 0;
  merged = 0;
  begun = None;
  hand = None;
}

abbrev pub new_store : Seen → List ℕ → ℕ → List FileName → Shown
new_store seen dir m beside = record { disk = seen; dir = dir; kept = new_kept m beside; halt = None }

-- the state of an empty store with these other folders
abbrev pub new_state : Seen → List ℕ → ℕ → List FolderRead → State
new_state seen dir m folders = record (empty_state dir) {
  folders = folders;
  next = m + 2;
  manifest_len = length (first_manifest m);
  faults = seen.faults;
  refusals = seen.refusals;
}

-- a disk that has a new store's folder and nothing else
abbrev pub new_disk : List ℕ → disk.State
new_disk dir = folder_disk dir (new_files 1)
