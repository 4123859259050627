-- Pins and checkpoints of a state, and what a store keeps of them and has on its disk.
use Rattle.std.specs.Prelude.{◌≡◌, ◌≢◌, ◌⊎◌, ℕ, ◌-◌, ◌≤◌, ◌<◌, Bool, true, false, is_some, List, [], ◌∷◌, ◌++◌, map, take, drop, length, All, Contains, Option, Some, None}
use Rattle.std.specs.List.{flat_map, IsDistinct}
use Rattle.std.specs.Str.{bytes_eq}
use Rattle.std.specs.FinMap as finmap
use Rattle.lsm_names.specs.Folders.{is_folder_name}
use Rattle.lsm_names.specs.FileNames.{IsFileName}
use Rattle.lsm_names.specs.declared.file_names.FileName.{FileName}
use Rattle.lsm_names.specs.declared.file_names.FileName.TheVariants.{Current}
use Rattle.lsm_disk.specs.Names.{Folder_node, File_node, all_named}
use Rattle.lsm_disk.specs.State as disk
use Rattle.lsm_disk.specs.State.{names_now, file_at}
use Rattle.lsm_disk.specs.Images.{bytes_at, tree_now}
use Rattle.lsm_disk.specs.Dest.{path_in}
use Rattle.lsm_folder.specs.Files.{Item, A_file, Files}
use Rattle.lsm_folder.specs.Names.{current_text}
use Rattle.lsm_folder.specs.Needed.{Stands}
use Rattle.lsm_model.specs.declared.states.State.{State}
use Rattle.lsm_model.specs.declared.states.Pin.{Pin}
use Rattle.lsm_model.specs.declared.states.PinnedFile.{PinnedFile}
use Rattle.lsm_model.specs.declared.states.Holder.{Holder}
use Rattle.lsm_model.specs.declared.states.Holder.TheVariants.{Caller, Checkpoint}
use Rattle.lsm_model.specs.States.{shown_at}
use Rattle.lsm_model.specs.Halting.{built_in}
use Rattle.lsm_model.specs.Pins.{listed, held}
use Rattle.lsm_model.specs.declared.cuts.Cut.{Cut}
use Rattle.lsm_refine.specs.Kept.{Job, KeptPin}
use Rattle.lsm_refine.specs.Sane.{IsAlone}

-- ---- pins

-- a pinned file as an entry of a folder
abbrev pub entry_of : PinnedFile → FileName × Item
entry_of file = (file.name, A_file file.bytes)

-- the folder that pinned files make with a CURRENT of their manifest
unfoldable pub folder_of_pin : ℕ → List PinnedFile → Files
folder_of_pin manifest files = finmap.from_entries ((Current, A_file (current_text manifest)) ∷ map entry_of files)

-- a pinned file is there, and begins with the pin's bytes
pub record IsPinned (d : disk.State) (dir : List ℕ) (file : PinnedFile) : Type 0 where
  pub fits : IsFileName file.name
  pub more : List ℕ
  pub there : bytes_at (tree_now d) (path_in dir file.name) ≡ Some (file.bytes ++ more)

-- so are all
abbrev pub PinFiles : disk.State → List ℕ → List PinnedFile → Type 0
PinFiles d dir files = All (IsPinned d dir) files

-- whose a pin is, by the checkpoint that is kept with it
abbrev pub holder_of : Option Job → Holder
holder_of None = Caller
holder_of (Some job) = Checkpoint job.dir job.left

-- What is kept of a pin is the state's, and its files are there. They make a folder that stands for the pin's batches.
pub record IsKeptPin (s : State) (kept : KeptPin) (pin : Pin) : Type 0 where
  pub number : kept.number ≡ pin.number
  pub sequence : kept.sequence ≡ (shown_at s pin.batches).sequence
  pub files : kept.files ≡ map held pin.files
  pub manifest : kept.manifest ≡ pin.manifest
  pub holder : holder_of kept.job ≡ pin.holder
  pub within : pin.batches ≤ length s.accepted
  pub stands : Stands (folder_of_pin kept.manifest pin.files) (shown_at s pin.batches).contents (shown_at s pin.batches).sequence

-- the kept pins and those of a state fit one another, one by one
abbrev pub ArePins : (KeptPin → Pin → Type 0) → List KeptPin → List Pin → Type 0
ArePins Fits [] [] = Unit {0}
ArePins Fits [] (pin ∷ pins) = ⊥
ArePins Fits (kept ∷ more) [] = ⊥
ArePins Fits (kept ∷ more) (pin ∷ pins) = Fits kept pin × ArePins Fits more pins

-- the kept pins are those of the state, and what they hold is there
pub record Pinned (d : disk.State) (dir : List ℕ) (kept : List KeptPin) (s : State) : Type 0 where
  pub pins : ArePins (IsKeptPin s) kept s.pins
  pub files : All (λ (pin : Pin). PinFiles d dir pin.files) s.pins

-- The files that a cut lists are a folder, with a CURRENT of the cut's manifest, that stands for the accepted batches.
pub record ListedStand (cut : Cut) (s : State) : Type 0 where
  pub files : List PinnedFile
  pub are : map listed cut.files ≡ map held files
  pub stands : Stands (folder_of_pin cut.manifest files) (shown_at s (length s.accepted)).contents (shown_at s (length s.accepted)).sequence

-- ---- checkpoints

-- Whatever an earlier open left of a checkpoint's folder can be cleared, now and after each crash: under the name in which it
-- is built there is nothing, or a folder that has no other folder in it.
pub record AreClearable (d : disk.State) : Type 0 where
  pub no_file : (dir : List ℕ) (k id : ℕ) → is_folder_name dir ≡ true
      → finmap.get (all_named (take k d.pending) d.durable) (built_in dir) ≢ Some (File_node id)
  pub no_folder : (dir rest : List ℕ) (k : ℕ) → is_folder_name dir ≡ true
      → finmap.get (all_named (take k d.pending) d.durable) (built_in dir ++ 47 ∷ rest) ≢ Some Folder_node

-- the file is whole in that folder: it is the store's own file, or a copy that has no other name
pub record HasCopy (d : disk.State) (own built : List ℕ) (file : PinnedFile) : Type 0 where
  pub whole : bytes_at (tree_now d) (path_in built file.name) ≡ Some file.bytes
  pub of : (file_at d (path_in built file.name) ≡ file_at d (path_in own file.name)) ⊎ IsAlone d (path_in built file.name)

-- so many of the file's bytes were copied, not all of them
pub record HasFront (d : disk.State) (built : List ℕ) (copied : ℕ) (file : PinnedFile) : Type 0 where
  pub fewer : copied < length file.bytes
  pub front : bytes_at (tree_now d) (path_in built file.name) ≡ Some (take copied file.bytes)
  pub alone : IsAlone d (path_in built file.name)

-- nothing has the file's name
abbrev pub IsAbsent : disk.State → List ℕ → PinnedFile → Type 0
IsAbsent d built file = finmap.get (names_now d) (path_in built file.name) ≡ None

-- the files that are whole, and those that aren't
abbrev pub done_files : Job → List PinnedFile → List PinnedFile
done_files job files = take (length files - job.left) files

abbrev pub left_files : Job → List PinnedFile → List PinnedFile
left_files job files = drop (length files - job.left) files

-- how many of these are made: the first one or none
abbrev pub begun_count : Bool → ℕ
begun_count true = 1
begun_count false = 0

-- of those that aren't, the one that was made and of which some bytes may be copied, and those that aren't there at all
abbrev pub begun_files : Job → List PinnedFile → List PinnedFile
begun_files job files = take (begun_count job.made) (left_files job files)

abbrev pub absent_files : Job → List PinnedFile → List PinnedFile
absent_files job files = drop (begun_count job.made) (left_files job files)

-- The folder is there with what the steps have done: the whole files, a front of the one in hand, and no other file.
pub record HasJob (d : disk.State) (own : List ℕ) (job : Job) (files : List PinnedFile) : Type 0 where
  pub left : job.left ≤ length files
  pub unmade : job.made ≡ false → job.copied ≡ 0
  pub folder : finmap.get (names_now d) (built_in job.dir) ≡ Some Folder_node
  pub whole : All (HasCopy d own (built_in job.dir)) (done_files job files)
  pub hand : All (HasFront d (built_in job.dir) job.copied) (begun_files job files)
  pub absent : All (IsAbsent d (built_in job.dir)) (absent_files job files)
  pub only : (name : FileName) → IsFileName name → is_some (finmap.get (names_now d) (path_in (built_in job.dir) name)) ≡ true
      → Contains (map (λ (file : PinnedFile). file.name) files) name

abbrev pub BuildsJob : disk.State → List ℕ → Option Job → Pin → Type 0
BuildsJob d own None pin = Unit {0}
BuildsJob d own (Some job) pin = HasJob d own job pin.files

-- the folder that a pin's checkpoint makes, if it has one
abbrev pub dir_of : Option Job → List (List ℕ)
dir_of None = []
dir_of (Some job) = job.dir ∷ []

-- no two checkpoints make one folder, and each is built as far as its steps have come
pub record JobsBuild (d : disk.State) (own : List ℕ) (kept : List KeptPin) (s : State) : Type 0 where
  pub apart : IsDistinct bytes_eq (flat_map (λ (pin : KeptPin). dir_of pin.job) kept)
  pub each : ArePins (λ (pin : KeptPin) (of : Pin). BuildsJob d own pin.job of) kept s.pins
