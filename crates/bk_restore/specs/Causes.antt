-- Which count rose.
use Rattle.std.specs.Prelude.{◌⊎◌, None, Result, IfErr}
use Rattle.lsm_io.specs.Causes.{Rose}
use Rattle.lsm_disk.specs.State.{Seen}
use Rattle.lsm_disk.specs.Viewed.{Viewed}
pub use Rattle.bk_copy.specs.Counts.{AreLater}
use Rattle.bk_restore.specs.declared.errors.RestoreError.{RestoreError}
use Rattle.bk_restore.specs.declared.errors.RestoreError.TheVariants.{DiskFault, DestFault, Halted, DestinationExists, Missing, Changed, WrongSize, Damaged, NoMemory}

-- by the answer: the backup disk's count of faults or of refusals, or the destination's
abbrev pub CountedBy : (fault refused dest_fault dest_refused : Type 0) → RestoreError → Type 0
CountedBy fault refused dest_fault dest_refused DiskFault = fault
CountedBy fault refused dest_fault dest_refused DestFault = dest_fault
CountedBy fault refused dest_fault dest_refused (Halted first) = Unit {0}
CountedBy fault refused dest_fault dest_refused (DestinationExists dir) = dest_refused
CountedBy fault refused dest_fault dest_refused (Missing name) = refused
CountedBy fault refused dest_fault dest_refused (Changed call path) = refused ⊎ dest_refused
CountedBy fault refused dest_fault dest_refused (WrongSize name kept found) = Unit {0}
CountedBy fault refused dest_fault dest_refused (Damaged name kept found) = Unit {0}
CountedBy fault refused dest_fault dest_refused NoMemory = Unit {0}

-- No count has fallen, and one has risen as the answer says.
pub record HasCauses {T : Type 0} (disk disk_now dest dest_now : Seen) (result : Result T RestoreError) : Type 0 where
  pub disk_later : AreLater disk disk_now
  pub dest_later : AreLater dest dest_now
  pub counted : IfErr result (CountedBy (Rose disk.faults disk_now.faults) (Rose disk.refusals disk_now.refusals)
      (Rose dest.faults dest_now.faults) (Rose dest.refusals dest_now.refusals))

-- a view's counts, as those of a disk
abbrev pub counts_of : Viewed → Seen
counts_of v = record { told = None; faults = v.faults; refusals = 0 }

-- what has no counts that could rise
abbrev pub silent : Seen
silent = record { told = None; faults = 0; refusals = 0 }
