-- What an image of a store's folder reads by while its manifest is written, or another one takes its place.
use Rattle.std.specs.Prelude.{◌≡◌, ◌⊎◌, ℕ, ◌≤◌, true, List, [], ◌∷◌, ◌++◌, map, All, Contains, Some, None}
use Rattle.std.specs.List.{flat_map}
use Rattle.std.specs.FinMap as finmap
use Rattle.lsm_names.specs.Folders.{is_folder_name}
use Rattle.lsm_names.specs.FileNames.{IsFileName}
use Rattle.lsm_names.specs.declared.file_names.FileName.TheVariants.{Log, Manifest, Temp, Current}
use Rattle.lsm_disk.specs.Names.{Folder_node, Put, Gone, Moved}
use Rattle.lsm_disk.specs.State.{State, Change, Created, Named, Appended, Synced, Names_synced, Idle, names_now}
use Rattle.lsm_disk.specs.Images.{Tree, bytes_at}
use Rattle.lsm_disk.specs.Kept.{IsKeptName, OpSpares}
use Rattle.lsm_disk.specs.Dest.{path_in}
use Rattle.lsm_folder.specs.Names.{current_text}
use Rattle.lsm_frame.specs.Growth.{IsOpen}
use Rattle.lsm_frame.specs.Records.{front, end_of}
use Rattle.lsm_version.specs.declared.edits.Edit.{Edit}
use Rattle.lsm_version.specs.EditText.{edit_text}
use Rattle.lsm_folder.specs.Manifests.{manifest_text, tables_after, log_after, last_after}
use Rattle.lsm_folder.specs.Parts.{AreEdits, IsManifest}
use Rattle.lsm_model.specs.declared.states.State as model
use Rattle.lsm_refine.specs.Kept.{Kept, Shown}
use Rattle.lsm_refine.specs.Parts.{Parts, AreRowsOf, first_in_last}
use Rattle.lsm_refine.specs.Sane.{IsWholeFile, IsAlone, HasTables, names_held}
use Rattle.lsm_refine.specs.Tied.{Tied}
use Rattle.lsm_refine.specs.Folders.{ChangesInside}
use Rattle.lsm_refine.specs.Beside.{LeadToFiles, HasOlderLogs, SaneBeside}
use Rattle.lsm_refine.specs.Among.{ChangesAmong, switched_names}

-- While an edit is appended: the image has the manifest's file. Its records are the edits, or these and the new one, and it
-- ends there or inside a torn record.
pub record HasEither (path : List ℕ) (edits : List Edit) (next : Edit) (t : Tree) : Type 0 where
  pub bytes : List ℕ
  pub there : bytes_at t path ≡ Some bytes
  pub records : (front bytes ≡ map edit_text edits) ⊎ (front bytes ≡ map edit_text (edits ++ next ∷ []))
  pub ends : IsOpen (end_of bytes)

-- in the tree CURRENT names the manifest of this number, which is the whole one of these edits
pub record NamesWhole (dir : List ℕ) (number : ℕ) (edits : List Edit) (t : Tree) : Type 0 where
  pub current : bytes_at t (path_in dir Current) ≡ Some (current_text number)
  pub there : bytes_at t (path_in dir (Manifest number)) ≡ Some (manifest_text edits)

-- in the tree CURRENT names a manifest that reads to these edits
pub record NamesManifest (dir : List ℕ) (edits : List Edit) (t : Tree) : Type 0 where
  pub number : ℕ
  pub numbered : IsFileName (Manifest number)
  pub current : bytes_at t (path_in dir Current) ≡ Some (current_text number)
  pub text : List ℕ
  pub there : bytes_at t (path_in dir (Manifest number)) ≡ Some text
  pub says : IsManifest text edits

-- What an image of the folder reads by beside the last log, CURRENT and the manifest: the folder, the tables and the older logs
-- are there, and no operation that a crash may undo touches a log's name from the log number on.
pub record IsReadableBut (d : State) (dir : List ℕ) (kept : Kept) (parts : Parts) : Type 0 where
  pub named : is_folder_name dir ≡ true
  pub folder : IsKeptName d dir (Some Folder_node)
  pub version : kept.version ≡ tables_after parts.edits
  pub log : kept.log ≡ log_after parts.edits
  pub tables : HasTables d dir kept parts.rows
  pub logs : HasOlderLogs d dir kept parts
  pub quiet : (number : ℕ) → kept.log ≤ number → IsFileName (Log number) → All (OpSpares (path_in dir (Log number))) d.pending

-- ---- another manifest takes the place

-- The changes that make a manifest of this number and let CURRENT name it: the manifest's file and the temporary one are made,
-- files that weren't there before are filled, the temporary one takes the name CURRENT, and names are synced.
abbrev pub Replaces : List ℕ → ℕ → ℕ → Change → Type 0
Replaces dir number first (Created other) = (other ≡ path_in dir (Manifest number)) ⊎ (other ≡ path_in dir (Temp number))
Replaces dir number first (Named (Put path node)) = ⊥
Replaces dir number first (Named (Gone path)) = ⊥
Replaces dir number first (Named (Moved from to)) = (from ≡ path_in dir (Temp number)) × (to ≡ path_in dir Current)
Replaces dir number first (Appended k bytes) = first ≤ k
Replaces dir number first (Synced k) = first ≤ k
Replaces dir number first Names_synced = Unit {0}
Replaces dir number first Idle = Unit {0}

-- From the earlier disk to the later one nothing has changed but at the three names, all inside the folder. Names lead to files
-- that were made.
pub record ReplacesAt (dir : List ℕ) (number : ℕ) (d later : State) : Type 0 where
  pub among : ChangesAmong dir (switched_names number number) d later
  pub lead : LeadToFiles later
  pub inside : ChangesInside dir d later

-- CURRENT names the manifest of this number for good: both files are whole, the manifest's has no other name, the
-- temporary name is free, and there is no operation on names that a crash may undo.
pub record HasReplaced (d : State) (dir : List ℕ) (number : ℕ) (edits : List Edit) : Type 0 where
  pub current : IsWholeFile d (path_in dir Current) (current_text number)
  pub manifest : IsWholeFile d (path_in dir (Manifest number)) (manifest_text edits)
  pub alone : IsAlone d (path_in dir (Manifest number))
  pub gone : finmap.get (names_now d) (path_in dir (Temp number)) ≡ None
  pub quiet : d.pending ≡ []

-- a number under which a store may make a new manifest: neither that nor the temporary file of this number is known, and no pin
-- holds CURRENT
pub record MayBeNext (kept : Kept) (number : ℕ) : Type 0 where
  pub numbered : IsFileName (Manifest number)
  pub temporary : IsFileName (Temp number)
  pub unknown : ¬ Contains kept.known (Manifest number)
  pub free : ¬ Contains kept.known (Temp number)
  pub unpinned : ¬ Contains (flat_map names_held kept.pins) Current

-- ---- what new edits leave

-- A store is ready to be kept so: but for its manifest all is on its disk as it is kept with new edits, whose parts have the
-- state's batches. The manifest is that of before until another one takes its place, and the log number doesn't fall.
pub record IsReadyFor (d : State) (v : Shown) (s : model.State) (kept : Kept) (parts : Parts) : Type 0 where
  pub beside : SaneBeside d v.dir kept parts (Manifest kept.manifest)
  pub manifest : kept.manifest ≡ v.kept.manifest
  pub are : AreEdits parts.edits
  pub version : kept.version ≡ tables_after parts.edits
  pub log : kept.log ≡ log_after parts.edits
  pub last : kept.last ≡ last_after parts.edits
  pub active : AreRowsOf (first_in_last parts) parts.last.batches kept.active
  pub least : v.kept.log ≤ kept.log
  pub tied : Tied parts s
