-- What stands in a store's folder after each part of its opening.
use Rattle.std.specs.Prelude.{◌≡◌, ◌≢◌, ℕ, false, All, List, [], ◌∷◌, ◌++◌, slice_get, Some, None, codes}
use Rattle.std.specs.FinMap as map
use Rattle.lsm_disk.specs.Names.{Folder_node, is_in, stands}
use Rattle.lsm_disk.specs.State.{FileState, State, names_now}
use Rattle.lsm_disk.specs.Kept.{IsKeptFile, IsFileNow}
use Rattle.lsm_disk.specs.Tree.{IsLawful}
use Rattle.lsm_disk.specs.Refusals.{no_room}
use Rattle.lsm_publish.specs.Publishing.{Not_known, IsReady}
use Rattle.lsm_wal.specs.Standing.{IsWal}
use Rattle.ldb_script.specs.Folders.{IsNoFile}
use Rattle.ldb_script.specs.Stored.{log_path, manifest_path, current_path, temporary_path, first_manifest, first_current, whole_file, HasFirstFiles}

-- nothing stands under the folder's name
abbrev pub IsFreeFolder : List ℕ → State → Type 0
IsFreeFolder folder s = stands (names_now s) folder ≡ None

-- One new file of these bytes, all of them synced: each other name leads where it led, and each other file is as it was.
pub record AddsFile (path bytes : List ℕ) (old new : State) : Type 0 where
  pub id : ℕ
  pub now : IsFileNow new path id (whole_file bytes)
  pub names : (other : List ℕ) → other ≢ path → stands (names_now new) other ≡ stands (names_now old) other
  pub files : (k : ℕ) (f : FileState) → slice_get old.files k ≡ Some f → slice_get new.files k ≡ Some f
  pub lawful : IsLawful old → no_room path old ≡ None → IsLawful new

-- such a state was reached, and each name that is not in the folder leads where it led
pub record Fills (folder : List ℕ) (Has : State → Type 0) (old new : State) : Type 0 where
  pub has : Has new
  pub elsewhere : (path : List ℕ) → is_in folder path ≡ false → stands (names_now new) path ≡ stands (names_now old) path

-- nothing stands in the folder under another name than these
abbrev pub HasOnly : List (List ℕ) → List ℕ → State → Type 0
HasOnly own folder s = (name : List ℕ) → All (λ (other : List ℕ). name ≢ other) own → map.get (names_now s) (folder ++ 47 ∷ name) ≡ None

-- The folder has the manifest now, and nothing else.
pub record HasManifest (folder : List ℕ) (s : State) : Type 0 where
  pub lawful : IsLawful s
  pub folder_stands : stands (names_now s) folder ≡ Some Folder_node
  pub id : ℕ
  pub manifest : IsFileNow s (manifest_path folder) id (whole_file first_manifest)
  pub only : HasOnly (codes "MANIFEST-000001" ∷ []) folder s

-- The manifest outlives each crash, and so does `CURRENT` under its temporary name. Nothing else stands in the folder.
pub record HasTemporary (folder : List ℕ) (s : State) : Type 0 where
  pub folder_stands : stands (names_now s) folder ≡ Some Folder_node
  pub manifest_id : ℕ
  pub manifest : IsKeptFile s (manifest_path folder) manifest_id (whole_file first_manifest)
  pub id : ℕ
  pub ready : IsReady (temporary_path folder) (current_path folder) Not_known id first_current s
  pub only : HasOnly (codes "MANIFEST-000001" ∷ codes "000001.dbtmp" ∷ []) folder s

-- The manifest and `CURRENT` outlive each crash, and nothing else stands in the folder.
pub record HasCurrent (folder : List ℕ) (s : State) : Type 0 where
  pub folder_stands : stands (names_now s) folder ≡ Some Folder_node
  pub manifest_id : ℕ
  pub manifest : IsKeptFile s (manifest_path folder) manifest_id (whole_file first_manifest)
  pub current_id : ℕ
  pub current : IsKeptFile s (current_path folder) current_id (whole_file first_current)
  pub only : HasOnly (codes "MANIFEST-000001" ∷ codes "CURRENT" ∷ []) folder s

-- The folder of a new store: the manifest, `CURRENT` and an empty log, which outlive each crash, and nothing else.
pub record HasStore (folder : List ℕ) (s : State) : Type 0 where
  pub folder_stands : stands (names_now s) folder ≡ Some Folder_node
  pub log : IsWal s (log_path folder) [] 0
  pub files : HasFirstFiles s folder (log_path folder)
  pub only : (name : List ℕ) → IsNoFile name → map.get (names_now s) (folder ++ 47 ∷ name) ≡ None
