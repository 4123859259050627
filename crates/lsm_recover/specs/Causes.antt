-- Which count rose where a reading of a folder was refused.
use Rattle.std.specs.Prelude.{◌≡◌, ◌⊎◌, ℕ, ◌≤◌, List, Result, IfErr}
use Rattle.lsm_io.specs.Causes.{Rose}
use Rattle.lsm_disk.specs.State.{Seen}
use Rattle.lsm_disk.specs.Viewed.{Viewed}
use Rattle.lsm_disk.specs.declared.calls.DiskCall.{DiskCall}
use Rattle.lsm_disk.specs.declared.calls.DiskCall.TheVariants as call
use Rattle.lsm_disk.specs.declared.calls.DiskError.{DiskError}
use Rattle.lsm_disk.specs.declared.calls.DiskError.TheVariants as disk
use Rattle.lsm_disk.specs.declared.calls.Halt.{Halt}
use Rattle.lsm_disk.specs.declared.calls.DiskRefusal.{DiskRefusal}
use Rattle.lsm_names.specs.declared.file_names.FileName.{FileName}
use Rattle.lsm_frame.specs.declared.next.FrameError.{FrameError}
use Rattle.lsm_frame.specs.declared.next.FrameError.TheVariants as frame
use Rattle.lsm_table.specs.declared.faults.TableFault.{TableFault}
use Rattle.lsm_table.specs.declared.faults.TableFault.TheVariants as table
use Rattle.lsm_wal.specs.declared.why.WalWhy.{WalWhy}
use Rattle.lsm_wal.specs.declared.why.WalWhy.TheVariants as why
use Rattle.lsm_recover.specs.declared.errors.FolderError.{FolderError}
use Rattle.lsm_recover.specs.declared.errors.FolderError.TheVariants.{DiskFault, NoFolder, NoCurrent, Missing, Changed, Short, Damaged, Malformed, TornLog, Gap, BadLevels, NoMemory}

abbrev pub error_for : FolderError → Halt → DiskError → FolderError
error_for missing at disk.Fault = DiskFault
error_for missing at disk.NotThere = missing
error_for missing at disk.Exists = Changed at.call at.path
error_for missing at disk.NoLinks = Changed at.call at.path
error_for missing at disk.NotEmpty = Changed at.call at.path
error_for missing at (disk.Short found) = Changed at.call at.path
error_for missing at disk.NoMemory = NoMemory

-- how a refused disk call is told, where this error says that its file isn't there
abbrev pub error_by : FolderError → DiskRefusal → FolderError
error_by missing refused = error_for missing refused.at refused.why

-- the disk calls that a reading of a folder makes
abbrev pub IsOfReading : DiskCall → Type 0
IsOfReading made = (made ≡ call.List) ⊎ ((made ≡ call.Size) ⊎ (made ≡ call.Open))

-- A fault raised the count of faults. What isn't there or has changed raised that of refusals, and
-- a folder that isn't there or has no CURRENT is the one that is read; it is a call of the reading
-- that finds it changed. The others are of the bytes that were read.
abbrev pub HasRisenBy : List ℕ → Seen → Seen → FolderError → Type 0
HasRisenBy dir old new DiskFault = Rose old.faults new.faults
HasRisenBy dir old new (NoFolder at) = (at ≡ dir) × Rose old.refusals new.refusals
HasRisenBy dir old new (NoCurrent at) = (at ≡ dir) × Rose old.refusals new.refusals
HasRisenBy dir old new (Missing name) = Rose old.refusals new.refusals
HasRisenBy dir old new (Changed made path) = Rose old.refusals new.refusals × IsOfReading made
HasRisenBy dir old new (Short name kept found) = Unit {0}
HasRisenBy dir old new (Damaged name place kept found) = Unit {0}
HasRisenBy dir old new (Malformed name place) = Unit {0}
HasRisenBy dir old new (TornLog name place) = Unit {0}
HasRisenBy dir old new (Gap name kept found) = Unit {0}
HasRisenBy dir old new (BadLevels level left right) = Unit {0}
HasRisenBy dir old new NoMemory = Unit {0}

pub record HasFolderCause {T : Type 0} (dir : List ℕ) (old new : Seen) (result : Result T FolderError) : Type 0 where
  pub faults_later : old.faults ≤ new.faults
  pub refusals_later : old.refusals ≤ new.refusals
  pub counted : IfErr result (HasRisenBy dir old new)

-- the same of an error that a view gives: a fault raised its count, and no call of the disk was
-- refused
abbrev pub HasRisenIn : Viewed → Viewed → FolderError → Type 0
HasRisenIn old new DiskFault = Rose old.faults new.faults
HasRisenIn old new (NoFolder at) = ⊥
HasRisenIn old new (NoCurrent at) = ⊥
HasRisenIn old new (Missing name) = ⊥
HasRisenIn old new (Changed call path) = ⊥
HasRisenIn old new (Short name kept found) = Unit {0}
HasRisenIn old new (Damaged name place kept found) = Unit {0}
HasRisenIn old new (Malformed name place) = Unit {0}
HasRisenIn old new (TornLog name place) = Unit {0}
HasRisenIn old new (Gap name kept found) = Unit {0}
HasRisenIn old new (BadLevels level left right) = Unit {0}
HasRisenIn old new NoMemory = Unit {0}

-- an error of the bytes that were read, or want of memory: no count need have risen
abbrev pub IsOfBytes : FolderError → Type 0
IsOfBytes DiskFault = ⊥
IsOfBytes (NoFolder at) = ⊥
IsOfBytes (NoCurrent at) = ⊥
IsOfBytes (Missing name) = ⊥
IsOfBytes (Changed call path) = ⊥
IsOfBytes (Short name kept found) = Unit {0}
IsOfBytes (Damaged name place kept found) = Unit {0}
IsOfBytes (Malformed name place) = Unit {0}
IsOfBytes (TornLog name place) = Unit {0}
IsOfBytes (Gap name kept found) = Unit {0}
IsOfBytes (BadLevels level left right) = Unit {0}
IsOfBytes NoMemory = Unit {0}

-- a manifest's trouble as an error of its folder
abbrev pub frame_error : FileName → FrameError → FolderError
frame_error name frame.ReadFault = DiskFault
frame_error name (frame.Damaged place kept found) = Damaged name place kept found
frame_error name (frame.Malformed place) = Malformed name place
frame_error name frame.NoMemory = NoMemory

-- a log's trouble as an error of its folder
abbrev pub wal_error : FileName → WalWhy → FolderError
wal_error name why.ReadFault = DiskFault
wal_error name (why.Damaged place kept found) = Damaged name place kept found
wal_error name (why.Malformed place) = Malformed name place
wal_error name why.NoMemory = NoMemory
wal_error name (why.BadBatch place) = Malformed name place
wal_error name (why.Gap kept found) = Gap name kept found

-- a table's fault as an error of its folder
abbrev pub table_error : FileName → TableFault → FolderError
table_error name table.ReadFault = DiskFault
table_error name (table.Damaged place kept found) = Damaged name place kept found
table_error name (table.Malformed place) = Malformed name place
table_error name table.NoMemory = NoMemory
