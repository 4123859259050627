-- What an opening of a folder that stands makes of it, and why it is refused.
use Rattle.std.specs.Prelude.{◌≡◌, ◌≢◌, ◌⊎◌, ℕ, ◌+◌, ◌-◌, ◌^◌, ◌<◌, ◌≤◌, List, [], ◌∷◌, ◌++◌, length, All, Option, Some, Result, IfErr}
use Rattle.std.specs.FinMap as finmap
use Rattle.lsm_names.specs.FileNames.{IsFileName}
use Rattle.lsm_names.specs.declared.file_names.FileName.{FileName}
use Rattle.lsm_names.specs.declared.file_names.FileName.TheVariants.{Log, Manifest, Table}
use Rattle.lsm_rows.specs.declared.rows.Row.{Row}
use Rattle.lsm_disk.specs.State.{State, Seen, Story, Change, state_of, after, file_synced}
use Rattle.lsm_disk.specs.Images.{Tree}
use Rattle.lsm_disk.specs.Goes.{Went}
use Rattle.lsm_disk.specs.Tree.{IsLawful}
use Rattle.lsm_disk.specs.Answers.{HasRisen}
use Rattle.lsm_disk.specs.Dest.{path_in}
use Rattle.lsm_disk.specs.Halts.{halt_at}
use Rattle.lsm_disk.specs.declared.calls.DiskCall.TheVariants as call
use Rattle.lsm_disk.specs.declared.calls.DiskError.{DiskError}
use Rattle.lsm_disk.specs.declared.calls.DiskError.TheVariants as disk
use Rattle.lsm_recover.specs.declared.errors.FolderError.TheVariants as folder
use Rattle.lsm_version.specs.declared.tables.TableInfo.{TableInfo}
use Rattle.lsm_version.specs.Levels.{Tables}
use Rattle.lsm_manifest.specs.Texts.{manifest_text}
use Rattle.lsm_recover.specs.Causes.{HasRisenBy}
use Rattle.lsm_recover.specs.Site.{IsStoreSite}
use Rattle.lsm_refine.specs.Flushed.{at_top}
use Rattle.lsm_refine.specs.FoundFolder.{Recovery, IsRecovery, HasRecovered, HasAdded, new_version, new_manifest, new_log, last_found, opening_edits}
use Rattle.lsm_model.specs.declared.states.State as model
use Rattle.lsm_refine.specs.Grown.{IsDrawn}
use Rattle.lsm_refine.specs.OpeningImages.{KeepsFolder}
use Rattle.lsm_refine.specs.Openings.{IsFound, IsKeptImage}
use Rattle.lsm_refine.specs.Sane.{AreFiles}
use Rattle.lsm_refine.specs.WholeEdits.{AreInRange}
use Rattle.lsm_opening.specs.declared.errors.OpenError.{OpenError}
use Rattle.lsm_opening.specs.declared.errors.OpenError.TheVariants as error
use Rattle.lsm_opening.specs.declared.installing.Recovered.{Recovered}
use Rattle.lsm_opening.specs.Numbers.{AreTablesBefore}
use Rattle.lsm_opening.specs.RowFiles.{WritesFile}
use Rattle.lsm_opening.specs.RowTables.{HasRowTable}

-- ---- why it is refused

-- what isn't there or has changed raised the count of refusals, and a fault that of faults
abbrev pub HasOpenRisen : List ℕ → Seen → Seen → OpenError → Type 0
HasOpenRisen dir old new (error.Folder why) = HasRisenBy dir old new why
HasOpenRisen dir old new (error.Disk refused) = HasRisen old new refused.why
HasOpenRisen dir old new (error.TablesFull live adding) = (4096 < live + adding) × (adding ≤ 1)
HasOpenRisen dir old new (error.NumbersFull next) = next ≡ 2 ^ 56 - 1

-- how a refused sync of a file is told: as the file's own lack, or as the disk's refusal
abbrev pub sync_error : FileName → List ℕ → DiskError → OpenError
sync_error name path disk.NotThere = error.Folder (folder.Missing name)
sync_error name path disk.Fault = error.Disk (record { at = halt_at call.Sync path; why = disk.Fault })
sync_error name path disk.Exists = error.Disk (record { at = halt_at call.Sync path; why = disk.Exists })
sync_error name path disk.NoLinks = error.Disk (record { at = halt_at call.Sync path; why = disk.NoLinks })
sync_error name path disk.NotEmpty = error.Disk (record { at = halt_at call.Sync path; why = disk.NotEmpty })
sync_error name path (disk.Short found) = error.Disk (record { at = halt_at call.Sync path; why = disk.Short found })
sync_error name path disk.NoMemory = error.Disk (record { at = halt_at call.Sync path; why = disk.NoMemory })

-- no count has fallen, and a refusal has its cause
pub record HasOpenCause {T : Type 0} (dir : List ℕ) (old new : Seen) (result : Result T OpenError) : Type 0 where
  pub faults_later : old.faults ≤ new.faults
  pub refusals_later : old.refusals ≤ new.refusals
  pub counted : IfErr result (HasOpenRisen dir old new)

-- ---- the table of the logs' rows

-- there is no row, and the version and the names are as they were; or the rows are in a table at level 0, whose name came
-- behind
-- the others
pub data HasWritten (dir : List ℕ) (version : Tables) (names : List FileName) (rows : List Row) (number : ℕ)
    (old new : Option Story) (now : Tables) (more : List FileName) : Type 0 where
  No_rows : rows ≡ [] → new ≡ old → now ≡ version → more ≡ names
      → HasWritten dir version names rows number old new now more
  With_table : (info : TableInfo) → rows ≢ [] → HasRowTable dir rows number old new info
      → now ≡ finmap.insert version number (at_top info) → more ≡ names ++ Table number ∷ []
      → HasWritten dir version names rows number old new now more

-- nothing was written, or only a file of a table's name
abbrev pub WroteAtMost : List ℕ → ℕ → Option Story → Option Story → Type 0
WroteAtMost dir number old new = (new ≡ old)
    ⊎ ((start : Story) → old ≡ Some start → WritesFile (path_in dir (Table number)) start new (λ (x : State). Unit {0}))

-- ---- the whole of it

-- Names are synced, no folder stands under a file's name, and the folder stands with CURRENT.
pub record IsReady (dir : List ℕ) (mid : Story) : Type 0 where
  pub settled : (state_of mid).pending ≡ []
  pub lawful : IsLawful (state_of mid)
  pub files : AreFiles (state_of mid) dir
  pub site : IsStoreSite dir mid

-- Whatever state was found: each image of the disk since then is kept from where the opening began, so far as the folder was
-- kept until then.
abbrev pub KeepsImages : List ℕ → Story → Option Story → Type 0
KeepsImages dir mid told = (s : model.State) → s.own ≡ dir → IsFound (state_of mid) s
    → (start : State) → KeepsFolder dir start (state_of mid)
    → Went mid told (λ (c : Change). Unit {0}) (λ (x : State) (t : Tree). IsKeptImage dir start t) (λ (x : State). Unit {0})

-- what a store goes on with is what the opening made of what it read
pub record IsRecoveredBy (dir : List ℕ) (recovery : Recovery) (r : Recovered) : Type 0 where
  pub version : r.version ≡ new_version recovery
  pub names : HasAdded recovery r.names
  pub manifest : r.manifest ≡ record {
    dir = dir;
    number = new_manifest recovery;
    path = path_in dir (Manifest (new_manifest recovery));
    len = length (manifest_text (opening_edits recovery));
  }
  pub wal : r.wal ≡ record { path = path_in dir (Log (new_log recovery)); len = 0 }
  pub log : r.log ≡ new_log recovery
  pub sequence : r.sequence ≡ last_found recovery

-- The file of a path was synced, the manifest's. Then the folder was read, and the opening went whole from there.
pub record HasRecoveredFrom (dir : List ℕ) (mid : Story) (told : Option Story) (r : Recovered) : Type 0 where
  pub path : List ℕ
  pub found : Story
  pub found_is : state_of found ≡ after (state_of mid) (file_synced path (state_of mid))
  pub story : Story
  pub tells : told ≡ Some story
  pub recovery : Recovery
  pub read : IsRecovery (state_of found) dir recovery
  pub gone : HasRecovered (state_of found) (state_of story) dir recovery
  pub is : IsRecoveredBy dir recovery r

-- On every disk the numbers and the sequence are in range, all names are files' and have drawn numbers, as the tables have, and
-- the manifest and the log are the folder's.
pub record IsSoundRecovered (dir : List ℕ) (r : Recovered) : Type 0 where
  pub some : 1 ≤ r.log
  pub most : r.log + 1 < 2 ^ 56
  pub last : r.sequence < 2 ^ 56
  pub fit : All IsFileName r.names
  pub names : All (IsDrawn (r.log + 1)) r.names
  pub manifest_in : r.manifest.dir ≡ dir
  pub manifest_is : r.manifest.path ≡ path_in dir (Manifest r.manifest.number)
  pub wal_is : r.wal.path ≡ path_in dir (Log r.log)
  pub range : AreInRange r.version
  pub below : AreTablesBefore r.log r.version
