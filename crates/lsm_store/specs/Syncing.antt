-- Why a file isn't synced, or its name.
use Rattle.std.specs.Prelude.{◌≡◌, ◌≢◌, List, ℕ, Err}
use Rattle.lsm_disk.specs.State.{Seen, file_synced, names_synced}
use Rattle.lsm_disk.specs.Refusals.{never, no_file}
use Rattle.lsm_disk.specs.Answers.{Makes, Allowed, LeftBy, Answers}
use Rattle.lsm_disk.specs.Halts.{halt_at}
use Rattle.lsm_disk.specs.declared.calls.DiskCall.TheVariants.{Sync, SyncNames}
use Rattle.lsm_disk.specs.declared.calls.DiskError.TheVariants.{NoMemory}
use Rattle.lsm_disk.specs.declared.calls.DiskRefusal.{DiskRefusal}

-- The refused call is the sync of this file. A fault has synced it or not; any other refusal has
-- not, and comes as the disk has it. Memory isn't wanted.
pub record IsNotSynced (path : List ℕ) (old new : Seen) (r : DiskRefusal) : Type 0 where
  pub at : r.at ≡ halt_at Sync path
  pub left : LeftBy (new.told ≡ old.told) (Allowed (no_file path) old.told × Makes old.told (file_synced path) new.told) r.why
  pub answer : Answers {T = Unit {0}} (no_file path) old (Err r.why)
  pub memory : r.why ≢ NoMemory

-- The refused call is the sync of the names, for this file's sake. A fault has synced them or not; any other refusal doesn't
-- come.
pub record AreNotSynced (path : List ℕ) (old new : Seen) (r : DiskRefusal) : Type 0 where
  pub at : r.at ≡ halt_at SyncNames path
  pub left : LeftBy (new.told ≡ old.told) (Allowed never old.told × Makes old.told names_synced new.told) r.why
  pub answer : Answers {T = Unit {0}} never old (Err r.why)
  pub memory : r.why ≢ NoMemory
