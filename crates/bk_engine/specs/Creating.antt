-- The creation of a backup that has no tables.
use Rattle.std.specs.Prelude.{◌≡◌, ◌⊎◌, ℕ, ◌+◌, ◌<◌, ◌^◌, List, [], ◌∷◌, length, map, Option, Some, None, Result, Ok, Err}
use Rattle.std.specs.List.{All}
use Rattle.std.specs.Option.{option_map}
use Rattle.lsm_io.specs.Causes.{Rose}
use Rattle.lsm_bytes.specs.Checksum.{crc32c}
use Rattle.lsm_names.specs.declared.file_names.FileName.{FileName}
use Rattle.lsm_names.specs.declared.file_names.FileName.TheVariants.{Log, Manifest, Current}
use Rattle.lsm_disk.specs.State.{Seen}
use Rattle.lsm_disk.specs.declared.calls.DiskError.{DiskError}
use Rattle.lsm_disk.specs.declared.calls.DiskError.TheVariants as disk
use Rattle.lsm_disk.specs.declared.calls.DiskRefusal.{DiskRefusal}
use Rattle.lsm_disk.specs.declared.calls.Halt.{Halt}
use Rattle.bk_meta.specs.declared.backup_files.BackupFile.TheVariants.{Private}
use Rattle.bk_meta.specs.declared.metas.MetaFile.{MetaFile}
use Rattle.bk_meta.specs.declared.metas.Meta.{Meta}
use Rattle.bk_meta.specs.BackupFiles.{path_of}
use Rattle.bk_meta.specs.Metas.{IsMeta}
use Rattle.bk_engine.specs.Shown.{Shown}
use Rattle.bk_engine.specs.declared.errors.EngineError.{EngineError}
use Rattle.bk_engine.specs.declared.errors.EngineError.TheVariants as engine
use Rattle.bk_engine.specs.declared.infos.BackupInfo.{BackupInfo}
use Rattle.bk_engine.specs.declared.plain.PlainFile.{PlainFile}
use Rattle.bk_engine.specs.declared.plain.PlainFiles.{PlainFiles}
use Rattle.bk_engine.specs.declared.stopping.Stop.{Stop}
use Rattle.bk_engine.specs.declared.stopping.Stop.TheVariants as stop

-- the names of the files, in the order of their paths: the log of this number, if there is one, `CURRENT`, and the manifest
abbrev pub plain_names : Option ℕ → ℕ → List FileName
plain_names None manifest = Current ∷ Manifest manifest ∷ []
plain_names (Some log) manifest = Log log ∷ Current ∷ Manifest manifest ∷ []

-- the names of the files that a backup is made of
abbrev pub file_names_of : {V : Type 0} → PlainFiles V → List FileName
file_names_of files = plain_names (option_map (λ (file : PlainFile _). file.number) files.log) files.manifest.number

-- a file of the backup's own, with the checksum of its bytes
abbrev pub own_file : ℕ → FileName → List ℕ → MetaFile
own_file id name bytes = record { path = path_of id (Private name); crc = crc32c bytes }

-- files of these names and bytes
abbrev pub own_files : ℕ → List FileName → List (List ℕ) → List MetaFile
own_files id [] texts = []
own_files id (name ∷ names) [] = []
own_files id (name ∷ names) (bytes ∷ texts) = own_file id name bytes ∷ own_files id names texts

-- the meta of a backup of these files, with no metadata
abbrev pub plain_meta : ℕ → ℕ → ℕ → List FileName → List (List ℕ) → Meta
plain_meta id timestamp sequence names texts = record {
  id = id;
  timestamp = timestamp;
  sequence = sequence;
  metadata = [];
  files = own_files id names texts;
}

-- what a meta says of its backup
abbrev pub info_of : Meta → BackupInfo
info_of meta = record {
  id = meta.id;
  timestamp = meta.timestamp;
  sequence = meta.sequence;
  files = length meta.files;
  metadata = meta.metadata;
}

-- ---- what a stop answers, and whether it halts

abbrev pub error_by : Halt → DiskError → EngineError
error_by at disk.Fault = engine.DiskFault
error_by at disk.NoMemory = engine.NoMemory
error_by at why = engine.Changed at.call at.path

-- a fault is the disk's, and any other refusal but want of memory says that the disk was changed
abbrev pub error_of : Stop → EngineError
error_of (stop.Refused refusal) = error_by refusal.at refusal.why
error_of stop.Source = engine.SourceFault
error_of stop.NoMemory = engine.NoMemory

abbrev pub halt_by : Halt → DiskError → Option Halt
halt_by at disk.NoMemory = None
halt_by at why = Some at

-- a fault of a disk call halts, and so does a refusal that says that the disk was changed
abbrev pub halt_of : Stop → Option Halt
halt_of (stop.Refused refusal) = halt_by refusal.at refusal.why
halt_of stop.Source = None
halt_of stop.NoMemory = None
