-- How the commands of backups and folders are answered, step by step.
use Rattle.std.specs.Prelude.{◌≡◌, ℕ, ◌⊎◌, List, Option, Result, Ok, Err}
use Rattle.lsm_recover.specs.declared.errors.FolderError.{FolderError}
use Rattle.lsm_recover.specs.declared.errors.FolderError.TheVariants as folder
use Rattle.bk_engine.specs.declared.errors.EngineError.{EngineError}
use Rattle.bk_engine.specs.declared.errors.EngineError.TheVariants as engine
use Rattle.ldb_script.specs.Printed.{no_backup_line, exists_line, ids_full_line, no_folder_line}
use Rattle.ldb_script.specs.Plain.{Outcome, created, both}
use Rattle.ldb_script.specs.Stored.{Stands}
use Rattle.ldb_script.specs.Vaults.{Backs}
use Rattle.ldb_script.specs.Backing.{IsReady}
use Rattle.ldb_script.specs.Tools.{Tools, Origin}
use Rattle.ldb_script.specs.Doing.{Breaks}
use Rattle.ldb_script.specs.declared.line.Command.{Command}
use Rattle.ldb_script.specs.declared.line.Command.TheVariants.{CreateBackup}
use Rattle.ldb_script.specs.declared.ending.Ended.{Ended}
use Rattle.ldb_script.specs.declared.ending.Ended.TheVariants as ended

-- this text, or want of memory
abbrev pub IsText : List ℕ → Result (List ℕ) Ended → Type 0
IsText text result = (result ≡ Ok text) ⊎ (result ≡ Err ended.NoMemory)

-- some text, or want of memory
abbrev pub IsSomeText : Result (List ℕ) Ended → Type 0
IsSomeText result = (text : List ℕ) × IsText text result

-- how a run ends over whose backups no engine is opened
abbrev pub shut_end : EngineError → Ended
shut_end engine.DiskFault = ended.BackupFault
shut_end (engine.Changed call path) = ended.BackupChanged call path
shut_end (engine.Found path) = ended.InTheWay (engine.Found path)
shut_end (engine.StrangeFolder path) = ended.InTheWay (engine.StrangeFolder path)
shut_end other = ended.NoMemory

-- an engine is opened, or the run ends
abbrev pub OpenedOr : Origin → Tools → Tools → Outcome → Command → Result Unit Ended → Type 0
OpenedOr origin old new outcome command (Ok done) = IsReady origin.backups new.backups outcome.after
OpenedOr origin old new outcome command (Err ended) = Breaks origin old new outcome command ended

-- A creation at this time is answered, with which these times are left, and store and backups stand behind it.
pub record HasCreated (origin : Origin) (new : Tools) (outcome : Outcome) (now : ℕ) (left : Option (List ℕ)) (text : List ℕ) : Type 0 where
  pub is_text : text ≡ (created outcome.after now left).text
  pub store : Stands origin.store new.store (both outcome (created outcome.after now left))
  pub backups : Backs origin.backups new.backups (created outcome.after now left).after

abbrev pub CreatedOr : Origin → Tools → Tools → Outcome → ℕ → Option (List ℕ) → Result (List ℕ) Ended → Type 0
CreatedOr origin old new outcome now left (Ok text) = HasCreated origin new outcome now left text
CreatedOr origin old new outcome now left (Err ended) = Breaks origin old new outcome CreateBackup ended

-- ---- refusals

-- a refused creation: that no identifier is left is printed, and any other ends the run
abbrev pub UncreatedAs : EngineError → Result (List ℕ) Ended → Type 0
UncreatedAs engine.DiskFault result = result ≡ Err ended.BackupFault
UncreatedAs engine.SourceFault result = result ≡ Err ended.DiskFault
UncreatedAs (engine.Changed call path) result = result ≡ Err (ended.BackupChanged call path)
UncreatedAs engine.IdsFull result = IsText ids_full_line result
UncreatedAs other result = result ≡ Err ended.NoMemory

-- a refused restore: a fault or a disk that was changed ends the run, and any other refusal is printed
abbrev pub UnrestoredAs : EngineError → Result (List ℕ) Ended → Type 0
UnrestoredAs engine.DiskFault result = result ≡ Err ended.BackupFault
UnrestoredAs engine.DestFault result = result ≡ Err ended.DiskFault
UnrestoredAs (engine.Changed call path) result = result ≡ Err (ended.RestoreChanged call path)
UnrestoredAs engine.NoMemory result = result ≡ Err ended.NoMemory
UnrestoredAs (engine.NoSuchBackup id) result = IsText (no_backup_line id) result
UnrestoredAs (engine.DestinationExists name) result = IsText (exists_line name) result
UnrestoredAs other result = IsSomeText result

-- a folder that isn't shown: a fault ends the run, and any other refusal is printed
abbrev pub UnshownAs : List ℕ → FolderError → Result (List ℕ) Ended → Type 0
UnshownAs name folder.DiskFault result = result ≡ Err ended.DiskFault
UnshownAs name folder.NoMemory result = result ≡ Err ended.NoMemory
UnshownAs name (folder.NoFolder at) result = IsText (no_folder_line name) result
UnshownAs name other result = IsSomeText result
