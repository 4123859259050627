-- The folders of the store's disk: the store's own, the restored ones, and what else was there.
use Rattle.std.specs.Prelude.{◌≡◌, ◌≢◌, ℕ, Bool, false, is_some, IsTrue, All, List, [], ◌∷◌, ◌++◌, Option, Some, None, codes}
use Rattle.std.specs.FinMap as map
use Rattle.lsm_names.specs.Folders.{is_folder_name}
use Rattle.lsm_names.specs.FileNames.{IsFileName}
use Rattle.lsm_disk.specs.Names.{Folder_node, is_in, stands}
use Rattle.lsm_disk.specs.State.{State, Story, state_of, names_now, file_at}
use Rattle.lsm_disk.specs.Images.{Tree, IsImage}
use Rattle.lsm_disk.specs.Tree.{IsLawful}
use Rattle.lsm_disk.specs.Dest.{path_in}
use Rattle.lsm_disk.specs.Building.{Part, names_of, IsBuilt}
use Rattle.lsm_folder.specs.Files.{place_of}
use Rattle.lsm_folder.specs.Needed.{Stands as Shows}
use Rattle.lsm_folder.specs.Reading.{reading}
use Rattle.bk_restore.specs.Held.{files_of}
use Rattle.std.specs.declared.result.Result.TheVariants.{Ok}
use Rattle.ldb_script.specs.Plain.{Plain, Restored}

-- A restored folder outlives each crash with its files, which stand for what it reads as; the log is none of them.
pub record IsRestored (s : State) (log : List ℕ) (folder : Restored) : Type 0 where
  pub parts : List Part
  pub named : IsTrue (is_folder_name folder.name)
  pub files : All IsFileName (names_of parts)
  pub built : IsBuilt folder.name parts s
  pub shows : Shows (files_of parts) folder.shown.contents folder.shown.sequence
  pub apart : (id : ℕ) → file_at s log ≡ Some id → All (λ part. file_at s (path_in folder.name part.name) ≢ Some id) parts

-- the path is in none of the run's folders
pub record IsElsewhere (plain : Plain) (path : List ℕ) : Type 0 where
  pub home : is_in plain.start.home path ≡ false
  pub restored : All (λ folder. is_in folder.name path ≡ false) plain.restored

-- not the name of one of the files that a store's folder has here
abbrev pub IsNoFile : List ℕ → Type 0
IsNoFile name = All (λ (own : List ℕ). name ≢ own) (codes "MANIFEST-000001" ∷ codes "CURRENT" ∷ codes "000002.log" ∷ [])

-- The store's folder stands and has its three files alone, the restored folders stand, and each name elsewhere leads where it led.
pub record HasFolders (start now : State) (log : List ℕ) (plain : Plain) : Type 0 where
  pub named : IsTrue (is_folder_name plain.start.home)
  pub stood : stands (names_now now) plain.start.home ≡ Some Folder_node
  pub home : (name : List ℕ) → IsNoFile name → map.get (names_now now) (plain.start.home ++ 47 ∷ name) ≡ None
  pub restored : All (IsRestored now log) plain.restored
  pub elsewhere : (path : List ℕ) → IsElsewhere plain path → stands (names_now now) path ≡ stands (names_now start) path

-- the disk tells, and these are the names that stand on it
pub record TellsTaken (told : Option Story) (taken : List ℕ → Bool) : Type 0 where
  pub story : Story
  pub tells : told ≡ Some story
  pub names : (name : List ℕ) → taken name ≡ is_some (stands (names_now (state_of story)) name)

-- the disk told which names were taken, it tells still, and the folders stand
pub record FoldersStand (start told : Option Story) (log : List ℕ) (plain : Plain) : Type 0 where
  pub first : Story
  pub told_first : start ≡ Some first
  pub taken : (name : List ℕ) → plain.start.taken name ≡ is_some (stands (names_now (state_of first)) name)
  -- its names made a tree
  pub lawful : IsLawful (state_of first)
  pub story : Story
  pub tells : told ≡ Some story
  pub has : HasFolders (state_of first) (state_of story) log plain

-- ---- what a run leaves of them

-- each restored folder reads as its backup did, now and after each crash
pub record RestoredRead (told : Option Story) (plain : Plain) : Type 0 where
  pub story : Story
  pub tells : told ≡ Some story
  pub each : All (λ folder. (t : Tree) → IsImage (state_of story) t → reading (place_of folder.name t) ≡ Ok folder.shown) plain.restored
