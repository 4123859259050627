-- How a refused call is answered.
use Rattle.std.specs.Prelude.{ℕ, List}
use Rattle.lsm_disk.specs.declared.calls.DiskCall.{DiskCall}
use Rattle.lsm_disk.specs.declared.calls.DiskError.{DiskError}
use Rattle.lsm_disk.specs.declared.calls.DiskError.TheVariants as disk
use Rattle.lsm_disk.specs.declared.dest.DestError.{DestError}
use Rattle.lsm_disk.specs.declared.dest.DestError.TheVariants as dest
use Rattle.bk_restore.specs.declared.errors.RestoreError.{RestoreError}
use Rattle.bk_restore.specs.declared.errors.RestoreError.TheVariants.{DiskFault, DestFault, Halted, DestinationExists, Missing, Changed, WrongSize, Damaged, NoMemory}

-- by the backup disk, whose file isn't there, or which was found changed
abbrev pub disk_answer : DiskCall → List ℕ → DiskError → RestoreError
disk_answer call path disk.Fault = DiskFault
disk_answer call path disk.NotThere = Missing path
disk_answer call path disk.NoMemory = NoMemory
disk_answer call path other = Changed call path

-- by the destination, each refusal in its own words
abbrev pub dest_answer : List ℕ → DestError → RestoreError
dest_answer dir dest.Fault = DestFault
dest_answer dir (dest.Halted first) = Halted first
dest_answer dir dest.Exists = DestinationExists dir
dest_answer dir (dest.Changed call path) = Changed call path
dest_answer dir dest.NoMemory = NoMemory

-- It can come past the begin of the folder from the destination, or while a view is read: it says nothing of the backup.
abbrev pub IsOfCopying : RestoreError → Type 0
IsOfCopying DiskFault = Unit {0}
IsOfCopying DestFault = Unit {0}
IsOfCopying (Halted first) = ⊥
IsOfCopying (DestinationExists dir) = ⊥
IsOfCopying (Missing name) = ⊥
IsOfCopying (Changed call path) = Unit {0}
IsOfCopying (WrongSize name kept found) = ⊥
IsOfCopying (Damaged name kept found) = ⊥
IsOfCopying NoMemory = Unit {0}

-- It can come past the begin of the folder.
abbrev pub IsPastBegin : RestoreError → Type 0
IsPastBegin DiskFault = Unit {0}
IsPastBegin DestFault = Unit {0}
IsPastBegin (Halted first) = ⊥
IsPastBegin (DestinationExists dir) = ⊥
IsPastBegin (Missing name) = Unit {0}
IsPastBegin (Changed call path) = Unit {0}
IsPastBegin (WrongSize name kept found) = Unit {0}
IsPastBegin (Damaged name kept found) = Unit {0}
IsPastBegin NoMemory = Unit {0}
