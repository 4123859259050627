-- What is wrong with a backup on a tree: the first file that isn't there, hasn't the size in its name, or hasn't the checksum
-- of its meta, `CURRENT` last.
use Rattle.std.specs.Prelude.{◌≡◌, ℕ, Bool, not, ◌==◌, if◌then◌else◌, List, [], ◌∷◌, ◌++◌, length, Option, Some, None, Result, Ok, Err, IfSome}
use Rattle.std.specs.List.{filter}
use Rattle.lsm_bytes.specs.Checksum.{crc32c}
use Rattle.lsm_disk.specs.State.{Story, state_of}
use Rattle.lsm_disk.specs.Images.{Tree, bytes_at, tree_now}
use Rattle.bk_meta.specs.declared.backup_files.BackupFile.{BackupFile}
use Rattle.bk_meta.specs.declared.backup_files.BackupFile.TheVariants.{Private, Shared}
use Rattle.bk_meta.specs.declared.metas.MetaFile.{MetaFile}
use Rattle.bk_meta.specs.BackupFiles.{file_at}
use Rattle.bk_meta.specs.Metas.{is_current}
use Rattle.bk_restore.specs.declared.errors.RestoreError.{RestoreError}
use Rattle.bk_restore.specs.declared.errors.RestoreError.TheVariants.{DiskFault, DestFault, Halted, DestinationExists, Missing, Changed, WrongSize, Damaged, NoMemory}

-- ---- one file

-- the first of two
abbrev pub or_else : Option RestoreError → Option RestoreError → Option RestoreError
or_else (Some e) next = Some e
or_else None next = next

-- a shared file has the size in its name
abbrev pub wrong_size : MetaFile → BackupFile → ℕ → Option RestoreError
wrong_size file (Private name) len = None
wrong_size file (Shared name) len = if len == name.size then None else Some (WrongSize file.path name.size len)

-- it has the checksum in its meta
abbrev pub wrong_crc : MetaFile → ℕ → Option RestoreError
wrong_crc file crc = if crc == file.crc then None else Some (Damaged file.path file.crc crc)

abbrev pub wrong_by : MetaFile → BackupFile → Option (List ℕ) → Option RestoreError
wrong_by file which None = Some (Missing file.path)
wrong_by file which (Some bytes) = or_else (wrong_size file which (length bytes)) (wrong_crc file (crc32c bytes))

-- a path of no file isn't a meta's
abbrev pub wrong_as : Tree → MetaFile → Option BackupFile → Option RestoreError
wrong_as t file None = None
wrong_as t file (Some which) = wrong_by file which (bytes_at t file.path)

-- ---- all files

abbrev pub is_current_file : ℕ → MetaFile → Bool
is_current_file id file = is_current (file_at id file.path)

-- the files of a meta but `CURRENT`
abbrev pub others : ℕ → List MetaFile → List MetaFile
others id files = filter (λ file. not (is_current_file id file)) files

-- `CURRENT`
abbrev pub currents : ℕ → List MetaFile → List MetaFile
currents id files = filter (λ file. is_current_file id file) files

-- in the order in which they are restored
abbrev pub in_order : ℕ → List MetaFile → List MetaFile
in_order id files = others id files ++ currents id files

-- what is wrong with the first file that isn't right
unfoldable pub first_wrong : ℕ → Tree → List MetaFile → Option RestoreError
first_wrong id t [] = None
first_wrong id t (file ∷ files) = or_else (wrong_as t file (file_at id file.path)) (first_wrong id t files)

-- ---- the answers that tell it

-- an answer on the backup tells what is wrong
abbrev pub IsTold : Option RestoreError → RestoreError → Type 0
IsTold wrong DiskFault = Unit {0}
IsTold wrong DestFault = Unit {0}
IsTold wrong (Halted first) = Unit {0}
IsTold wrong (DestinationExists dir) = Unit {0}
IsTold wrong (Missing name) = wrong ≡ Some (Missing name)
IsTold wrong (Changed call path) = Unit {0}
IsTold wrong (WrongSize name kept found) = wrong ≡ Some (WrongSize name kept found)
IsTold wrong (Damaged name kept found) = wrong ≡ Some (Damaged name kept found)
IsTold wrong NoMemory = Unit {0}

-- so does Ok, where nothing is
abbrev pub Tells : {T : Type 0} → Option RestoreError → Result T RestoreError → Type 0
Tells wrong (Ok value) = wrong ≡ None
Tells wrong (Err e) = IsTold wrong e

-- the same of one file, where the backup disk tells
abbrev pub IsToldOf : Option Story → MetaFile → BackupFile → RestoreError → Type 0
IsToldOf told file which e = IfSome told (λ story. IsTold (wrong_by file which (bytes_at (tree_now (state_of story)) file.path)) e)

-- the same of these files
abbrev pub IsToldFirst : ℕ → Option Story → List MetaFile → RestoreError → Type 0
IsToldFirst id told files e = IfSome told (λ story. IsTold (first_wrong id (tree_now (state_of story)) files) e)
