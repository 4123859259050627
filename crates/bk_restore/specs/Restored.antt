-- The files of a restored folder.
use Rattle.std.specs.List.{count_by}
use Rattle.std.specs.Prelude.{◌≡◌, ◌⊎◌, ℕ, true, false, is_some, All, List, [], ◌∷◌, ◌++◌, Option, Some, None, IfSome, IsTrue, Result, Ok, Err}
use Rattle.lsm_disk.specs.Names.{stands}
use Rattle.lsm_disk.specs.State.{State, Story, state_of, names_now}
use Rattle.lsm_disk.specs.Images.{Tree, bytes_at, tree_now}
use Rattle.lsm_disk.specs.Dest.{Begun, just_begun}
use Rattle.lsm_disk.specs.Building.{Part, names_of, LacksCurrent, IsWhole, IsBuilding, IsBuilt, IsUnfinished}
use Rattle.bk_meta.specs.declared.metas.MetaFile.{MetaFile}
use Rattle.bk_meta.specs.declared.metas.Meta.{Meta}
use Rattle.bk_meta.specs.declared.backup_files.BackupFile.{BackupFile}
use Rattle.bk_tree.specs.Holds.{is_right, store_name}
use Rattle.bk_meta.specs.BackupFiles.{file_at}
use Rattle.bk_meta.specs.Metas.{IsMetaFile, Ascends, is_current, shared_numbers, are_different}
use Rattle.bk_restore.specs.declared.errors.RestoreError.{RestoreError}
use Rattle.bk_restore.specs.declared.errors.RestoreError.TheVariants.{DiskFault, DestFault, Halted, DestinationExists, Missing, Changed, WrongSize, Damaged, NoMemory}
use Rattle.bk_restore.specs.Wrong.{is_current_file, others, currents}
use Rattle.bk_restore.specs.Hands.{IsNewName}

-- the part that a file of a backup becomes
abbrev pub part_of : BackupFile → List ℕ → Part
part_of which text = record { name = store_name which; bytes = text }

-- The part has the name that the file gets in a store's folder, and its bytes are right; they are the file's, where the backup
-- disk tells.
pub record IsRestored (id : ℕ) (told : Option Story) (file : MetaFile) (part : Part) : Type 0 where
  pub which : BackupFile
  pub named : file_at id file.path ≡ Some which
  pub name : part.name ≡ store_name which
  pub right : IsTrue (is_right file which part.bytes)
  pub same : IfSome told (λ story. bytes_at (tree_now (state_of story)) file.path ≡ Some part.bytes)

-- so is each part by its file
abbrev pub AreRestored : ℕ → Option Story → List MetaFile → List Part → Type 0
AreRestored id told [] [] = Unit {0}
AreRestored id told [] (part ∷ parts) = ⊥
AreRestored id told (file ∷ files) [] = ⊥
AreRestored id told (file ∷ files) (part ∷ parts) = IsRestored id told file part × AreRestored id told files parts

-- the parts are those of the meta's files, `CURRENT` first
abbrev pub IsFolderOf : Meta → Option Story → List Part → Type 0
IsFolderOf meta told parts = AreRestored meta.id told (currents meta.id meta.files ++ others meta.id meta.files) parts

-- ---- on the way

-- the folder with these files
abbrev pub begun_with : List ℕ → List Part → Begun
begun_with folder parts = record { folder = folder; names = names_of parts }

-- the begun folder with more files
abbrev pub with_parts : List Part → Begun → Begun
with_parts more begun = record { folder = begun.folder; names = begun.names ++ names_of more }

-- the file, unless it is `CURRENT`, gets a new name in the begun folder
abbrev pub IsNext : ℕ → MetaFile → Begun → Type 0
IsNext id file begun = (which : BackupFile) → file_at id file.path ≡ Some which → is_current (Some which) ≡ false
    → IsNewName begun (store_name which)

-- The files are some that a meta may name: with one `CURRENT`, and no shared number twice.
pub record AreMetaFiles (id : ℕ) (files : List MetaFile) : Type 0 where
  pub each : All (IsMetaFile id) files
  pub ascending : Ascends files
  pub current : count_by (λ file. is_current_file id file) files ≡ 1
  pub different : are_different (shared_numbers id files) ≡ true

-- ---- the whole folder

-- each image on the way has no `CURRENT` in the folder, or is as it was before, or has these parts and that of this file
abbrev pub MayHaveEnded : ℕ → Option Story → List MetaFile → State → List ℕ → List Part → State → Tree → Type 0
MayHaveEnded id told files start folder parts s t =
    LacksCurrent start folder t.names ⊎ ((part : Part) × AreRestored id told files (part ∷ []) × IsWhole folder (part ∷ parts) t)

-- Ok leaves the whole folder for good. A refusal leaves no `CURRENT`; but of a fault only the images on the way say what it left.
abbrev pub EndsBy : ℕ → Option Story → List MetaFile → State → List ℕ → List Part → Result (Unit {0}) RestoreError → State → Type 0
EndsBy id told files start folder parts (Ok value) s = (part : Part) × AreRestored id told files (part ∷ [])
    × IsBuilt folder (part ∷ parts) s
EndsBy id told files start folder parts (Err DestFault) s = Unit {0}
EndsBy id told files start folder parts (Err e) s = IsUnfinished start folder s

-- the same of a restore from its begin on
abbrev pub MayHaveRestored : Meta → Option Story → State → List ℕ → State → Tree → Type 0
MayHaveRestored meta told start folder s t = LacksCurrent start folder t.names
    ⊎ ((whole : List Part) × IsFolderOf meta told whole × IsWhole folder whole t)

abbrev pub LeavesBy : Meta → Option Story → State → List ℕ → Result ℕ RestoreError → State → Type 0
LeavesBy meta told start folder (Ok sequence) s = (whole : List Part) × IsFolderOf meta told whole × IsBuilt folder whole s
LeavesBy meta told start folder (Err DestFault) s = Unit {0}
LeavesBy meta told start folder (Err (Halted first)) s = s ≡ start
LeavesBy meta told start folder (Err (DestinationExists dir)) s = s ≡ start
LeavesBy meta told start folder (Err e) s = (s ≡ start) ⊎ IsUnfinished start folder s

-- the folder is begun, or all is as it was
abbrev pub BeginsBy : State → List ℕ → Result (Unit {0}) RestoreError → State → Type 0
BeginsBy start folder (Ok value) s = IsBuilding start (just_begun folder) [] s
BeginsBy start folder (Err DestFault) s = Unit {0}
BeginsBy start folder (Err e) s = s ≡ start

-- It can come from the begin of the folder.
abbrev pub IsBegunBy : RestoreError → Type 0
IsBegunBy DiskFault = ⊥
IsBegunBy DestFault = Unit {0}
IsBegunBy (Halted first) = Unit {0}
IsBegunBy (DestinationExists dir) = Unit {0}
IsBegunBy (Missing name) = ⊥
IsBegunBy (Changed call path) = Unit {0}
IsBegunBy (WrongSize name kept found) = ⊥
IsBegunBy (Damaged name kept found) = ⊥
IsBegunBy NoMemory = Unit {0}

-- Where the destination tells: Ok comes only where the folder's name is free, and `DestinationExists` only where it is taken. It
-- names the folder.
abbrev pub TakesBy : {T : Type 0} → List ℕ → Option Story → Result T RestoreError → Type 0
TakesBy folder told (Ok value) = IfSome told (λ story. stands (names_now (state_of story)) folder ≡ None)
TakesBy folder told (Err (DestinationExists dir)) = (dir ≡ folder)
    × IfSome told (λ story. is_some (stands (names_now (state_of story)) folder) ≡ true)
TakesBy folder told (Err e) = Unit {0}
