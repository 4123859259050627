-- What the folders of a disk read as, as a state says it.
use Rattle.std.specs.Prelude.{◌≡◌, ◌≢◌, ℕ, ◌≤◌, true, is_some, List, take, length, All, Some, Result, Ok, Err}
use Rattle.std.specs.FinMap as finmap
use Rattle.lsm_names.specs.Folders.{is_folder_name}
use Rattle.lsm_names.specs.FileNames.{IsFileName}
use Rattle.lsm_names.specs.declared.file_names.FileName.{FileName}
use Rattle.lsm_rows.specs.Replay.{replayed, sequence_after}
use Rattle.lsm_disk.specs.Names.{Folder_node}
use Rattle.lsm_disk.specs.State as disk
use Rattle.lsm_disk.specs.State.{Change, Appended, file_at}
use Rattle.lsm_disk.specs.Kept.{SparesName}
use Rattle.lsm_disk.specs.Images.{Tree, IsImage, tree_now}
use Rattle.lsm_disk.specs.Dest.{path_in}
use Rattle.lsm_folder.specs.Files.{files_in, item_at, place_of}
use Rattle.lsm_folder.specs.declared.refusals.Refusal.{Refusal}
use Rattle.lsm_folder.specs.declared.refusals.Refusal.TheVariants.{NoFolder, NoCurrent, Missing, Short, Malformed, Damaged, TornLog, Gap, BadLevels}
use Rattle.lsm_folder.specs.Needed.{Stands}
use Rattle.lsm_folder.specs.Reading.{Shown as Read, reading}
use Rattle.lsm_model.specs.declared.errors.StoreError.{StoreError}
use Rattle.lsm_model.specs.declared.errors.StoreError.TheVariants as error
use Rattle.lsm_model.specs.declared.replies.Shown.{Shown}
use Rattle.lsm_model.specs.declared.states.State.{State}
use Rattle.lsm_model.specs.declared.states.FolderRead.{FolderRead}
use Rattle.lsm_model.specs.States.{written, folder_of}
use Rattle.lsm_model.specs.Reads.{known_reading}
use Rattle.lsm_refine.specs.Sane.{IsAlone}

-- ---- the store's own folder

-- in this tree the folder stands for the first so many of the written batches
pub record StandsFor (s : State) (t : Tree) (count : ℕ) : Type 0 where
  pub folder : finmap.get t.names s.own ≡ Some Folder_node
  pub stands : Stands (files_in s.own t) (replayed s.opening (take count (written s))) (sequence_after s.began (take count (written s)))

-- it stands for a front of them, which has so many at least
pub record StandsFrom (s : State) (least : ℕ) (t : Tree) : Type 0 where
  pub count : ℕ
  pub enough : least ≤ count
  pub within : count ≤ length (written s)
  pub stands : StandsFor s t count

-- ---- the other folders

-- why a folder can't be read, as a store answers it
abbrev pub as_error : List ℕ → Refusal → StoreError
as_error dir NoFolder = error.NoFolder dir
as_error dir NoCurrent = error.NoCurrent dir
as_error dir (Missing name) = error.Missing name
as_error dir (Short name kept found) = error.Short name kept found
as_error dir (Malformed name place) = error.Malformed name place
as_error dir (Damaged name place kept found) = error.Damaged name place kept found
as_error dir (TornLog name place) = error.TornLog name place
as_error dir (Gap name kept found) = error.Gap name kept found
as_error dir (BadLevels level left right) = error.BadLevels level left right

-- what was read, as a store shows it
abbrev pub as_shown : List ℕ → Result Read Refusal → Result Shown StoreError
as_shown dir (Ok shown) = Ok (record { sequence = shown.sequence; contents = shown.contents })
as_shown dir (Err refusal) = Err (as_error dir refusal)

-- what a folder of a tree reads as
unfoldable pub folder_reading : List ℕ → Tree → Result Shown StoreError
folder_reading dir t = as_shown dir (reading (place_of dir t))

-- Each folder of the tree's root but the store's own is listed, and reads as its entry says; where none is listed, nothing is.
-- No others are listed.
pub record FoldersAre (own : List ℕ) (folders : List FolderRead) (t : Tree) : Type 0 where
  pub only : All (λ (folder : FolderRead). (is_folder_name folder.name ≡ true) × (folder.name ≢ own)) folders
  pub reads : (name : List ℕ) → is_folder_name name ≡ true → name ≢ own
      → folder_reading name t ≡ known_reading name (folder_of name folders)
  pub taken : (name : List ℕ) → is_folder_name name ≡ true → name ≢ own
      → is_some (folder_of name folders) ≡ is_some (finmap.get t.names name)

-- the folder is there in each image and reads as its entry says
pub record IsSure (d : disk.State) (folder : FolderRead) : Type 0 where
  pub there : (t : Tree) → IsImage d t → is_some (finmap.get t.names folder.name) ≡ true
  pub reads : (t : Tree) → IsImage d t → folder_reading folder.name t ≡ folder.reading

-- now all folders read as the state says, and those that are marked as sure do so in each image
pub record FoldersRead (d : disk.State) (s : State) : Type 0 where
  pub now : FoldersAre s.own s.folders (tree_now d)
  pub sure : (name : List ℕ) (folder : FolderRead) → folder_of name s.folders ≡ Some folder → folder.sure ≡ true → IsSure d folder

-- ---- where only the store's own folder changes

-- two trees have the same under each folder's name but the store's own: what stands there, and the files inside
pub record AreAlikeOutside (own : List ℕ) (t u : Tree) : Type 0 where
  pub names : (name : List ℕ) → is_folder_name name ≡ true → name ≢ own → finmap.get u.names name ≡ finmap.get t.names name
  pub items : (name : List ℕ) (file : FileName) → is_folder_name name ≡ true → name ≢ own → IsFileName file
      → item_at u (path_in name file) ≡ item_at t (path_in name file)

-- outside the store's own folder the later disk has now what the earlier one has, and each of its images what one of the
-- earlier one has
pub record ChangesInside (own : List ℕ) (d later : disk.State) : Type 0 where
  pub now : AreAlikeOutside own (tree_now d) (tree_now later)
  pub images : (u : Tree) → IsImage later u → (t : Tree) × IsImage d t × AreAlikeOutside own t u

-- the change leaves each folder's name but the store's own, and the names of the files inside
pub record SparesOutside (own : List ℕ) (c : Change) : Type 0 where
  pub names : (name : List ℕ) → is_folder_name name ≡ true → name ≢ own → SparesName name c
  pub files : (name : List ℕ) (file : FileName) → is_folder_name name ≡ true → name ≢ own → IsFileName file
      → SparesName (path_in name file) c

-- what is appended to is a file of the store's own folder that has no other name
abbrev pub AppendsInside : disk.State → List ℕ → Change → Type 0
AppendsInside d own (Appended id bytes) = (file : FileName) × IsFileName file × (file_at d (path_in own file) ≡ Some id)
    × IsAlone d (path_in own file)
AppendsInside d own other = Unit {0}

-- ---- a whole disk

-- a tree reads as this state says: the store's folder stands for all accepted batches, and the others are as listed
pub record ReadsAs (t : Tree) (s : State) : Type 0 where
  pub own : StandsFor s t (length s.accepted)
  pub others : FoldersAre s.own s.folders t
