-- A folder in which a new store may be made, and the disk behind the making of one.
use Rattle.std.specs.Prelude.{◌≡◌, ℕ, ◌+◌, ◌^◌, ◌<◌, ◌≤◌, true, is_some, List, [], All, Contains, Some}
use Rattle.std.specs.FinMap as finmap
use Rattle.lsm_names.specs.FileNames.{IsFileName}
use Rattle.lsm_names.specs.declared.file_names.FileName.{FileName}
use Rattle.lsm_names.specs.declared.file_names.FileName.TheVariants.{Log}
use Rattle.lsm_disk.specs.Names.{Folder_node}
use Rattle.lsm_disk.specs.State.{State, Created, Names_synced, after, folder_made, names_now}
use Rattle.lsm_disk.specs.Dest.{path_in}
use Rattle.lsm_refine.specs.Sane.{AreFiles}
use Rattle.lsm_refine.specs.Pins.{AreClearable}
use Rattle.lsm_refine.specs.Beside.{LeadToFiles}
use Rattle.lsm_refine.specs.New.{IsLeftover}

-- The folder stands, with these files and no other of a store's names: files of earlier openings, whose numbers come before
-- this one. All names are synced, no folder stands under a file's name, and a checkpoint may be built.
pub record IsVacant (d : State) (dir : List ℕ) (m : ℕ) (beside : List FileName) : Type 0 where
  pub least : 1 ≤ m
  pub most : m + 2 < 2 ^ 56
  pub settled : d.pending ≡ []
  pub folder : finmap.get (names_now d) dir ≡ Some Folder_node
  pub there : (name : FileName) → Contains beside name → is_some (finmap.get (names_now d) (path_in dir name)) ≡ true
  pub all : (name : FileName) → IsFileName name → is_some (finmap.get (names_now d) (path_in dir name)) ≡ true
      → Contains beside name
  pub earlier : All (IsLeftover m) beside
  pub files : AreFiles d dir
  pub lead : LeadToFiles d
  pub clear : AreClearable d

-- the disk with a new folder, whose name is sure
abbrev pub with_folder : List ℕ → State → State
with_folder dir d = after (after d (folder_made dir d)) Names_synced

-- the disk with a new empty log, whose name is sure
abbrev pub with_log : List ℕ → ℕ → State → State
with_log dir number d = after (after d (Created (path_in dir (Log number)))) Names_synced
