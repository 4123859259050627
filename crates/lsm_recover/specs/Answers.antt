-- How a reading of a disk answers what its folder reads as.
use Rattle.std.specs.Prelude.{◌≡◌, ℕ, List, Result, Ok, Err}
use Rattle.lsm_disk.specs.State.{Story, state_of}
use Rattle.lsm_disk.specs.Images.{tree_now}
use Rattle.lsm_folder.specs.declared.refusals.Refusal.{Refusal}
use Rattle.lsm_folder.specs.declared.refusals.Refusal.TheVariants as refusal
use Rattle.lsm_folder.specs.Files.{Files, Place, files_in, place_of}
use Rattle.lsm_recover.specs.declared.errors.FolderError.{FolderError}
use Rattle.lsm_recover.specs.declared.errors.FolderError.TheVariants.{DiskFault, NoFolder, NoCurrent, Missing, Changed, Short, Damaged, Malformed, TornLog, Gap, BadLevels, NoMemory}

-- the refusal that an error is has this property. A fault and want of memory are no refusals, and a
-- folder that changes while it is read isn't seen where the disk tells.
abbrev pub IsRefusal : (Refusal → Type 0) → FolderError → Type 0
IsRefusal Has DiskFault = Unit {0}
IsRefusal Has (NoFolder dir) = Has refusal.NoFolder
IsRefusal Has (NoCurrent dir) = Has refusal.NoCurrent
IsRefusal Has (Missing name) = Has (refusal.Missing name)
IsRefusal Has (Changed call path) = ⊥
IsRefusal Has (Short name kept found) = Has (refusal.Short name kept found)
IsRefusal Has (Damaged name place kept found) = Has (refusal.Damaged name place kept found)
IsRefusal Has (Malformed name place) = Has (refusal.Malformed name place)
IsRefusal Has (TornLog name place) = Has (refusal.TornLog name place)
IsRefusal Has (Gap name kept found) = Has (refusal.Gap name kept found)
IsRefusal Has (BadLevels level left right) = Has (refusal.BadLevels level left right)
IsRefusal Has NoMemory = Unit {0}

-- what is read is refused so
abbrev pub IsRefusedBy : {A : Type 0} → Result A Refusal → FolderError → Type 0
IsRefusedBy read error = IsRefusal (λ (refusal : Refusal). read ≡ Err refusal) error

-- the answer is what is read, or its refusal
abbrev pub AnswersAs : {A : Type 0} → Result A Refusal → Result A FolderError → Type 0
AnswersAs read (Ok x) = read ≡ Ok x
AnswersAs read (Err error) = IsRefusedBy read error

-- the files of a folder of a disk now
abbrev pub files_now : List ℕ → Story → Files
files_now dir story = files_in dir (tree_now (state_of story))

-- what stands in a folder's place of a disk now
abbrev pub place_now : List ℕ → Story → Place
place_now dir story = place_of dir (tree_now (state_of story))
