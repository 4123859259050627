-- What a restore into the store's disk leaves, by its answer.
use Rattle.std.specs.Prelude.{◌≡◌, ◌⊎◌, ℕ, Bool, true, false, List, Option, Some, None, Result, Ok, Err}
use Rattle.lsm_io.specs.Causes.{Rose}
use Rattle.lsm_disk.specs.State.{Seen, Story}
use Rattle.lsm_disk.specs.Dest.{DestSeen}
use Rattle.bk_meta.specs.declared.metas.Meta.{Meta}
use Rattle.bk_restore.specs.declared.errors.RestoreError.{RestoreError}
use Rattle.bk_engine.specs.Restoring.{answered, Restores}
use Rattle.bk_engine.specs.declared.errors.EngineError.{EngineError}
use Rattle.bk_engine.specs.declared.errors.EngineError.TheVariants as engine
use Rattle.ldb_script.specs.Printed.{Backup}
use Rattle.ldb_script.specs.Plain.{Standing, Free, Reads, Taken, Untold, Outcome, standing_of, backup_of, restored, both}
use Rattle.ldb_script.specs.Stored.{Shown, Stands}

-- Where the name was free, the restored folder stands beside the store. Where the disks don't tell, only the store is known.
abbrev pub PutsBeside : Option Story → Shown → Outcome → Backup → List ℕ → Standing → Type 0
PutsBeside start new outcome backup name Free = Stands start new (both outcome (restored outcome.after backup name))
PutsBeside start new outcome backup name (Reads shown) = ⊥
PutsBeside start new outcome backup name Taken = ⊥
PutsBeside start new outcome backup name Untold = Stands start new outcome

-- something stands under the name, or the disks don't tell
abbrev pub MayBeTaken : Standing → Type 0
MayBeTaken Free = ⊥
MayBeTaken (Reads shown) = Unit {0}
MayBeTaken Taken = Unit {0}
MayBeTaken Untold = Unit {0}

-- the disks don't tell, and the store stands as before
pub record IsUntold (start : Option Story) (new : Shown) (outcome : Outcome) (id : ℕ) (name : List ℕ) : Type 0 where
  pub backup : Backup
  pub listed : backup_of outcome.after.backups id ≡ Some backup
  pub untold : standing_of outcome.after name ≡ Untold
  pub stands : Stands start new outcome

-- the name is refused, and the store stands as before
pub record IsRefusedName (start : Option Story) (new : Shown) (outcome : Outcome) (id : ℕ) (name : List ℕ) : Type 0 where
  pub backup : Backup
  pub listed : backup_of outcome.after.backups id ≡ Some backup
  pub taken : MayBeTaken (standing_of outcome.after name)
  pub stands : Stands start new outcome

-- The backup of this identifier is restored under the name, at its last sequence.
pub record IsRestoredAs (start : Option Story) (new : Shown) (outcome : Outcome) (id : ℕ) (name : List ℕ) (sequence : ℕ) : Type 0 where
  pub backup : Backup
  pub listed : backup_of outcome.after.backups id ≡ Some backup
  pub sequence_is : sequence ≡ backup.shown.sequence
  pub beside : PutsBeside start new outcome backup name (standing_of outcome.after name)

-- What a restore leaves of a store that stands where a run has come, whose backups an engine keeps: what was seen of the store
-- and of the backups' disk before, and what is seen after. A fault, or a disk that was found changed, ends the run.
abbrev pub RestoresOr : Option Story → Shown → Shown → Seen → Seen → Outcome → ℕ → List ℕ → Result ℕ EngineError → Type 0
RestoresOr start old new vault vault' outcome id name (Ok sequence) = IsRestoredAs start new outcome id name sequence
RestoresOr start old new vault vault' outcome id name (Err (engine.NoSuchBackup n)) =
    (n ≡ id) × (backup_of outcome.after.backups id ≡ None) × Stands start new outcome
RestoresOr start old new vault vault' outcome id name (Err (engine.DestinationExists dir)) =
    (dir ≡ name) × IsRefusedName start new outcome id name
RestoresOr start old new vault vault' outcome id name (Err engine.DiskFault) = Rose vault.faults vault'.faults
RestoresOr start old new vault vault' outcome id name (Err engine.DestFault) = Rose old.disk.faults new.disk.faults
RestoresOr start old new vault vault' outcome id name (Err (engine.Changed call path)) =
    Rose vault.refusals vault'.refusals ⊎ Rose old.disk.refusals new.disk.refusals
RestoresOr start old new vault vault' outcome id name (Err engine.NoMemory) = Unit {0}
RestoresOr start old new vault vault' outcome id name (Err (engine.Missing path)) = IsUntold start new outcome id name
RestoresOr start old new vault vault' outcome id name (Err (engine.WrongSize path kept found)) = IsUntold start new outcome id name
RestoresOr start old new vault vault' outcome id name (Err (engine.Damaged path kept found)) = IsUntold start new outcome id name
RestoresOr start old new vault vault' outcome id name (Err other) = ⊥

-- ---- the steps of it

-- a destination over this disk, in which no folder is begun
abbrev pub over : Seen → DestSeen
over disk = record { disk = disk; halt = None; begun = None; hand = None }

-- The backup of this meta was restored into a folder of the disk, or refused: what was seen of the backups' disk and of the
-- store's before, and what is seen after.
pub record RestoresOnto (meta : Meta) (vault vault' old new : Seen) (name : List ℕ) (result : Result ℕ EngineError) : Type 0 where
  pub answer : Result ℕ RestoreError
  pub is : result ≡ answered answer
  pub left : DestSeen
  pub disk : left.disk ≡ new
  pub restores : Restores meta vault vault' (over old) left name answer

-- a name that is taken is refused as such where the backup is listed
abbrev pub taken_answer : ℕ → List ℕ → Bool → EngineError
taken_answer id name true = engine.DestinationExists name
taken_answer id name false = engine.NoSuchBackup id
