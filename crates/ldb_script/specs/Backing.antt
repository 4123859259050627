-- What the calls of a run's backups leave, by their answers.
use Rattle.std.specs.Prelude.{◌≡◌, ◌≢◌, ℕ, ◌+◌, ◌<◌, IsSome, All, List, Option, Some, Result, Ok, Err}
use Rattle.std.specs.FinMap as map
use Rattle.lsm_io.specs.Causes.{Rose}
use Rattle.lsm_rows.specs.declared.operations.Op.{Op}
use Rattle.lsm_rows.specs.Replay.{replayed, sequence_after}
use Rattle.lsm_names.specs.declared.file_names.FileName.{FileName}
use Rattle.lsm_disk.specs.State.{Story, state_of}
use Rattle.lsm_disk.specs.Viewed.{Viewed}
use Rattle.lsm_wal.specs.Batches.{IsLogged, in_sequence}
use Rattle.bk_engine.specs.Creating.{plain_names}
use Rattle.bk_engine.specs.Opening.{no_opening}
use Rattle.bk_engine.specs.Preparing.{AreTexts}
use Rattle.bk_engine.specs.Standing.{plain_log, plain_texts}
use Rattle.bk_engine.specs.declared.errors.EngineError.{EngineError}
use Rattle.bk_engine.specs.declared.errors.EngineError.TheVariants as engine
use Rattle.bk_engine.specs.declared.infos.BackupInfo.{BackupInfo}
use Rattle.ldb_script.specs.Plain.{Plain, backed_up}
use Rattle.ldb_script.specs.Vaults.{Vault, Backs}

-- ---- the opening of an engine

-- something is in the way on a disk that tells, and the disk is as it was
pub record IsShut (start : Option Story) (new : Vault) (why : EngineError) : Type 0 where
  pub unchanged : new.disk.told ≡ start
  pub is : (story : Story) → start ≡ Some story → no_opening (state_of story) ≡ Some why

-- why no engine is opened
abbrev pub ShutBy : Option Story → Vault → Vault → EngineError → Type 0
ShutBy start old new engine.DiskFault = Rose old.disk.faults new.disk.faults
ShutBy start old new (engine.Changed call path) = Rose old.disk.refusals new.disk.refusals
ShutBy start old new (engine.Found path) = IsShut start new (engine.Found path)
ShutBy start old new (engine.StrangeFolder path) = IsShut start new (engine.StrangeFolder path)
ShutBy start old new engine.NoMemory = Unit {0}
ShutBy start old new other = ⊥

-- the backups stand as before, and an engine is opened over them
pub record IsReady (start : Option Story) (new : Vault) (plain : Plain) : Type 0 where
  pub backs : Backs start new plain
  pub engine : IsSome new.engine

abbrev pub OpensOr : Option Story → Vault → Vault → Plain → Result Unit EngineError → Type 0
OpensOr start old new plain (Ok done) = IsReady start new plain
OpensOr start old new plain (Err why) = ShutBy start old new why

-- ---- a creation

-- Files of these names and views are those of a store of some batches, whose pairs and last sequence the plain state has.
pub record ArePlain (plain : Plain) (listed : List FileName) (views : List Viewed) : Type 0 where
  pub accepted : List (List Op)
  pub names : listed ≡ plain_names (plain_log accepted) 1
  pub texts : (these : List (List ℕ)) → AreTexts views these → these ≡ plain_texts accepted
  pub contents : plain.contents ≡ replayed map.empty accepted
  pub sequence : plain.sequence ≡ sequence_after 0 accepted
  pub logged : All IsLogged (in_sequence 1 accepted)

-- The next backup is there, of what the store holds, at this time; and these times are left.
pub record IsCreated (start : Option Story) (new : Vault) (plain : Plain) (now : ℕ) (left : Option (List ℕ))
    (info : BackupInfo) : Type 0 where
  pub room : plain.given ≢ 4294967295
  pub id : info.id ≡ plain.given + 1
  pub sequence : info.sequence ≡ plain.sequence
  pub backs : Backs start new (backed_up plain now left).after

-- why none is made; the views have had so many faults
abbrev pub UncreatedBy : Vault → Vault → Plain → ℕ → EngineError → Type 0
UncreatedBy old new plain later engine.DiskFault = Rose old.disk.faults new.disk.faults
UncreatedBy old new plain later (engine.Changed call path) = Rose old.disk.refusals new.disk.refusals
UncreatedBy old new plain later engine.SourceFault = 0 < later
UncreatedBy old new plain later engine.IdsFull = (plain.given ≡ 4294967295) × (new ≡ old)
UncreatedBy old new plain later engine.NoMemory = Unit {0}
UncreatedBy old new plain later other = ⊥
