-- What an opening finds under its folder's name, and what it leaves.
use Rattle.std.specs.Prelude.{◌≡◌, ◌≢◌, ℕ, ◌≤◌, true, List, [], ◌∷◌, ◌++◌, map, length, All, Option, Some}
use Rattle.std.specs.FinMap as finmap
use Rattle.lsm_names.specs.Folders.{is_folder_name}
use Rattle.lsm_names.specs.FileNames.{IsFileName}
use Rattle.lsm_names.specs.declared.file_names.FileName.{FileName}
use Rattle.lsm_rows.specs.Replay.{Contents}
use Rattle.lsm_disk.specs.Names.{Names, Folder_node, File_node}
use Rattle.lsm_disk.specs.State as disk
use Rattle.lsm_disk.specs.State.{Story, state_of}
use Rattle.lsm_disk.specs.Images.{Tree, IsImage, tree_now}
use Rattle.lsm_disk.specs.Dest.{path_in}
use Rattle.lsm_disk.specs.Goes.{Went}
use Rattle.lsm_folder.specs.Files.{Item, files_in, place_of}
use Rattle.lsm_folder.specs.Needed.{IsFresh, Stands}
use Rattle.lsm_model.specs.declared.states.State.{State}
use Rattle.lsm_model.specs.declared.states.FolderRead.{FolderRead}
use Rattle.lsm_model.specs.Halting.{built_in}
use Rattle.lsm_model.specs.States.{written}
use Rattle.lsm_model.specs.Crashes.{Crashed, Opened}
use Rattle.lsm_model.specs.Plain.{empty_state}
use Rattle.lsm_refine.specs.Kept.{Shown}
use Rattle.lsm_refine.specs.Pins.{AreClearable}
use Rattle.lsm_refine.specs.Sane.{TablesAreSynced}
use Rattle.lsm_refine.specs.Folders.{StandsFor, FoldersAre, FoldersRead, AreAlikeOutside}
use Rattle.lsm_refine.specs.Good.{Good}
use Rattle.lsm_refine.specs.New.{HasNewStore, next_number, new_store}

-- ---- a folder in a tree

-- nothing was written yet, neither before the opening nor since
pub record IsUnwritten (s : State) : Type 0 where
  pub opening : s.opening ≡ finmap.empty
  pub began : s.began ≡ 0
  pub none : written s ≡ []

-- In this tree the folder holds the first so many of the written batches: it stands for them; or it is fresh, and nothing was
-- written yet.
pub data Holds (s : State) (t : Tree) (count : ℕ) : Type 0 where
  As_store : StandsFor s t count → Holds s t count
  As_fresh : IsFresh (place_of s.own t) → IsUnwritten s → Holds s t count

-- No folder stands under a name of a store's file. A folder that has such a subfolder isn't found as a store's.
abbrev pub HasOnlyFiles : List ℕ → Names → Type 0
HasOnlyFiles dir names = (name : FileName) → IsFileName name → finmap.get names (path_in dir name) ≢ Some Folder_node

-- the folder holds a front of the written batches, which has so many at least, and no folder under a file's name
pub record HoldsFrom (s : State) (least : ℕ) (t : Tree) : Type 0 where
  pub count : ℕ
  pub enough : least ≤ count
  pub within : count ≤ length (written s)
  pub holds : Holds s t count
  pub files : HasOnlyFiles s.own t.names

-- under the name in which a checkpoint is built there is nothing, or a folder that has no other folder in it
pub record IsClearable (names : Names) : Type 0 where
  pub no_file : (dir : List ℕ) (id : ℕ) → is_folder_name dir ≡ true → finmap.get names (built_in dir) ≢ Some (File_node id)
  pub no_folder : (dir rest : List ℕ) → is_folder_name dir ≡ true → finmap.get names (built_in dir ++ 47 ∷ rest) ≢ Some Folder_node

-- the tree is as this state says: its folder holds all accepted batches, the others are as listed, and a checkpoint may be built
pub record HoldsAs (t : Tree) (s : State) : Type 0 where
  pub own : Holds s t (length s.accepted)
  pub files : HasOnlyFiles s.own t.names
  pub others : FoldersAre s.own s.folders t
  pub clear : IsClearable t.names

-- the tree is what a crash leaves of the state
pub record IsLeftOf (s : State) (t : Tree) : Type 0 where
  pub left : State
  pub crashed : Crashed s left
  pub holds : HoldsAs t left

-- ---- what an opening finds

-- A disk on which no store is open is as this state says: its folder holds now the accepted batches, or also the doubtful one,
-- and in each image a front of these with the durable ones; the tables that its manifest names are synced; the other folders
-- read as listed; and a checkpoint may be built.
pub record IsFound (d : disk.State) (s : State) : Type 0 where
  pub now : HoldsFrom s (length s.accepted) (tree_now d)
  pub images : (t : Tree) → IsImage d t → HoldsFrom s s.durable t
  pub synced : TablesAreSynced d s.own
  pub folders : FoldersRead d s
  pub clear : AreClearable d

-- the state of a folder of these contents and this sequence, with nothing accepted since; and with the other folders
abbrev pub found_state : List ℕ → Contents → ℕ → List FolderRead → State
found_state dir contents sequence folders = record (empty_state dir) { opening = contents; began = sequence; folders = folders }

-- ---- what it leaves

-- The store is good for a state that the opening makes of what was found. The other folders read as they did, and are marked
-- as they were; so a folder is marked that reads so in each image at the opening.
pub record OpensTo (s : State) (v : Shown) : Type 0 where
  pub state : State
  pub opened : Opened s state
  pub folders : state.folders ≡ s.folders
  pub good : Good v state

-- A crash of this state and the opening behind it lead to what is seen of the store. No folder is in doubt then: all are marked.
pub record ReopensTo (s : State) (v : Shown) : Type 0 where
  pub left : State
  pub crashed : Crashed s left
  pub opens : OpensTo left v
  pub sure : All (λ (folder : FolderRead). folder.sure ≡ true) opens.state.folders

-- the names of the files in a folder
abbrev pub names_in : List ℕ → Tree → List FileName
names_in dir t = map (λ (entry : FileName × Item). entry.0) (finmap.entries (files_in dir t))

-- the number that a new store's manifest has: the next one of the folder's names
abbrev pub first_number : Story → List ℕ → ℕ
first_number before dir = next_number (names_in dir (tree_now (state_of before)))

-- the store is a new one
pub record IsNewStore (before : Story) (dir : List ℕ) (v : Shown) : Type 0 where
  pub story : Story
  pub told : v.disk.told ≡ Some story
  pub beside : List FileName
  pub has : HasNewStore (state_of story) dir (first_number before dir) beside
  pub is : v ≡ new_store v.disk dir (first_number before dir) beside

-- in this tree there is a folder that stands for these contents and this sequence
pub record StandsAs (dir : List ℕ) (contents : Contents) (sequence : ℕ) (t : Tree) : Type 0 where
  pub folder : finmap.get t.names dir ≡ Some Folder_node
  pub stands : Stands (files_in dir t) contents sequence

-- What an opening may make of its folder: that stands for what it stood for; it is fresh still; or a new store, which is empty,
-- was made of a fresh one.
pub data IsAsBefore (dir : List ℕ) (old new : Tree) : Type 0 where
  Same : (contents : Contents) (sequence : ℕ) → StandsAs dir contents sequence old → StandsAs dir contents sequence new
      → IsAsBefore dir old new
  Still_fresh : IsFresh (place_of dir old) → IsFresh (place_of dir new) → IsAsBefore dir old new
  Made : IsFresh (place_of dir old) → StandsAs dir finmap.empty 0 new → IsAsBefore dir old new

-- The folder is as it was in an image from before, and no folder has come under a name of a store's file; the others are as in
-- one; and a checkpoint may be built.
pub record IsKeptImage (dir : List ℕ) (d : disk.State) (t : Tree) : Type 0 where
  pub one : Tree
  pub of : IsImage d one
  pub own : IsAsBefore dir one t
  pub files : HasOnlyFiles dir one.names → HasOnlyFiles dir t.names
  pub other : Tree
  pub also : IsImage d other
  pub outside : AreAlikeOutside dir other t
  pub clear : IsClearable t.names

-- While an opening goes on, each image is what a crash leaves of whatever state was found: the opening loses nothing.
abbrev pub LosesNothing : Story → List ℕ → Option Story → Type 0
LosesNothing before dir told = (s : State) → s.own ≡ dir → IsFound (state_of before) s
    → Went before told (λ c. Unit {0}) (λ d tree. IsLeftOf s tree) (λ d. Unit {0})

-- An opening of this folder that is answered Ok led from the story to what is seen of the store. Whatever state was found, the
-- store is good for what the opening makes of it; a fresh folder has a new store; and nothing was lost on the way.
pub record HasOpened (before : Story) (dir : List ℕ) (v : Shown) : Type 0 where
  pub leads : (s : State) → s.own ≡ dir → IsFound (state_of before) s → OpensTo s v
  pub fresh : IsFresh (place_of dir (tree_now (state_of before))) → AreClearable (state_of before) → IsNewStore before dir v
  pub moments : LosesNothing before dir v.disk.told
