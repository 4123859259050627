-- The making of a new store: what it leaves, and how the disk goes on the way.
use Rattle.std.specs.Prelude.{◌≡◌, ◌⊎◌, ℕ, ◌+◌, ◌-◌, ◌^◌, ◌<◌, ◌≤◌, List, [], ◌∷◌, ◌++◌, length, Option, Some, None, Result, Ok, Err}
use Rattle.std.specs.FinMap as finmap
use Rattle.lsm_io.specs.Causes.{Rose}
use Rattle.lsm_names.specs.declared.file_names.FileName.{FileName}
use Rattle.lsm_names.specs.declared.file_names.FileName.TheVariants.{Log, Manifest, Current}
use Rattle.lsm_disk.specs.State as disk
use Rattle.lsm_disk.specs.State.{Change, Seen, Story, after, folder_made, names_now, state_of}
use Rattle.lsm_disk.specs.Images.{Tree}
use Rattle.lsm_disk.specs.Tree.{IsLawful}
use Rattle.lsm_disk.specs.Goes.{Went}
use Rattle.lsm_disk.specs.Kept.{Making}
use Rattle.lsm_disk.specs.Dest.{path_in}
use Rattle.lsm_disk.specs.Halts.{halt_at, IsAmong}
use Rattle.lsm_disk.specs.declared.calls.DiskCall.TheVariants as call
use Rattle.lsm_disk.specs.declared.calls.DiskRefusal.{DiskRefusal}
use Rattle.lsm_disk.specs.declared.calls.Halt.{Halt}
use Rattle.lsm_wal.specs.Making.{MayHaveNew}
use Rattle.lsm_manifest.specs.Installing.{install_calls}
use Rattle.lsm_model.specs.declared.errors.StoreError.{StoreError}
use Rattle.lsm_model.specs.declared.errors.StoreError.TheVariants as error
use Rattle.lsm_refine.specs.Pins.{AreClearable}
use Rattle.lsm_refine.specs.Naming.{NamesWhole, Replaces, HasReplaced}
use Rattle.lsm_refine.specs.New.{first_edit, first_manifest, new_names, HasNewStore}
use Rattle.lsm_refine.specs.Vacant.{with_folder}
use Rattle.lsm_store.specs.declared.opening_new.NewFiles.{NewFiles}
use Rattle.lsm_store.specs.declared.opening_new.NewParts.{NewParts}

-- ---- what is made

-- the manifest of this number has the first edit, and the log of the next one nothing
pub record AreNewFiles (dir : List ℕ) (m : ℕ) (files : NewFiles) : Type 0 where
  pub manifest : files.manifest ≡ record {
    dir = dir;
    number = m;
    path = path_in dir (Manifest m);
    len = length (first_manifest m);
  }
  pub wal : files.wal ≡ record { path = path_in dir (Log (m + 1)); len = 0 }

-- so it is with a new store's parts, which has the names of its files and of those beside, and numbers left
pub record IsNewParts (dir : List ℕ) (m : ℕ) (beside : List FileName) (parts : NewParts) : Type 0 where
  pub small : m + 2 < 2 ^ 56
  pub files : AreNewFiles dir m (record { manifest = parts.manifest; wal = parts.wal })
  pub known : parts.known.items ≡ new_names m beside

-- ---- how the disk goes

-- in the image there is no CURRENT in the folder, or it names the first manifest, which is whole
abbrev pub HasNoneOrFirst : List ℕ → ℕ → disk.State → Tree → Type 0
HasNoneOrFirst dir m x t = (finmap.get t.names (path_in dir Current) ≡ None) ⊎ NamesWhole dir m (first_edit m ∷ []) t

-- the disk went on while the first manifest was made, and this holds behind it
abbrev pub GoesToManifest : List ℕ → ℕ → Story → Story → (disk.State → Type 0) → Type 0
GoesToManifest dir m start now I =
    Went start (Some now) (Replaces dir m (length (state_of start).files)) (HasNoneOrFirst dir m) I

-- The first manifest was made, and then the disk went on while the log was.
pub record GoesToLog (dir : List ℕ) (m : ℕ) (start now : Story) (I : disk.State → Type 0) : Type 0 where
  pub mid : Story
  pub manifest : GoesToManifest dir m start mid (λ x. HasReplaced x dir m (first_edit m ∷ []))
  pub log : Went mid (Some now) (Making (path_in dir (Log (m + 1)))) (MayHaveNew (state_of mid) (path_in dir (Log (m + 1)))) I

abbrev pub Anything : disk.State → Type 0
Anything x = Unit {0}

-- the disk has gone to a new store
abbrev pub GoesToStore : List ℕ → ℕ → List FileName → Story → Story → Type 0
GoesToStore dir m beside start now = GoesToLog dir m start now (λ x. HasNewStore x dir m beside)

-- it has stopped on the way
abbrev pub StopsBefore : List ℕ → ℕ → Story → Story → Type 0
StopsBefore dir m start now = GoesToManifest dir m start now Anything ⊎ GoesToLog dir m start now Anything

abbrev pub FilesGoTo : {T E : Type 0} → List ℕ → ℕ → List FileName → Story → Story → Result T E → Type 0
FilesGoTo dir m beside start now (Ok value) = GoesToStore dir m beside start now
FilesGoTo dir m beside start now (Err e) = StopsBefore dir m start now

pub record FilesGo {T E : Type 0} (dir : List ℕ) (m : ℕ) (beside : List FileName) (start : Story) (told : Option Story)
    (result : Result T E) : Type 0 where
  pub now : Story
  pub tells : told ≡ Some now
  pub goes : FilesGoTo dir m beside start now result

abbrev pub MakesBeside : List ℕ → ℕ → List FileName → Story → Option Story → Result NewParts StoreError → Type 0
MakesBeside dir m beside start told result = FilesGo dir m beside start told result

-- ---- a folder before it

-- nothing has the folder's name, and all names are synced
pub record IsFree (d : disk.State) (dir : List ℕ) : Type 0 where
  pub lawful : IsLawful d
  pub settled : d.pending ≡ []
  pub free : finmap.get (names_now d) dir ≡ None
  pub clear : AreClearable d

-- the disk is as it was; or it has the new folder, whose name is sure or not
abbrev pub HasMadeFolder : List ℕ → disk.State → disk.State → Tree → Type 0
HasMadeFolder dir d x t = (x ≡ d) ⊎ ((x ≡ after d (folder_made dir d)) ⊎ (x ≡ with_folder dir d))

-- the disk went on while the folder was made, and this holds behind it
abbrev pub GoesToFolder : List ℕ → Story → Story → (disk.State → Type 0) → Type 0
GoesToFolder dir start now I = Went start (Some now) (λ c. Unit {0}) (HasMadeFolder dir (state_of start)) I

abbrev pub IsFolderMade : {T : Type 0} → List ℕ → disk.State → Result T DiskRefusal → disk.State → Type 0
IsFolderMade dir d (Ok value) x = x ≡ with_folder dir d
IsFolderMade dir d (Err r) x = Unit {0}

pub record FolderGoes {T : Type 0} (dir : List ℕ) (start : Story) (told : Option Story)
    (result : Result T DiskRefusal) : Type 0 where
  pub now : Story
  pub tells : told ≡ Some now
  pub goes : GoesToFolder dir start now (IsFolderMade dir (state_of start) result)

-- the folder was made, and then the disk went on so
pub record GoesInFolder (dir : List ℕ) (start : Story) (Next : Story → Type 0) : Type 0 where
  pub mid : Story
  pub folder : GoesToFolder dir start mid (λ x. x ≡ with_folder dir (state_of start))
  pub next : Next mid

abbrev pub GoesAnew : {T E : Type 0} → List ℕ → Story → Story → Result T E → Type 0
GoesAnew dir start now (Ok value) = GoesInFolder dir start (λ mid. GoesToStore dir 1 [] mid now)
GoesAnew dir start now (Err e) = GoesToFolder dir start now Anything ⊎ GoesInFolder dir start
    (λ mid. StopsBefore dir 1 mid now)

pub record MakesAnew (dir : List ℕ) (start : Story) (told : Option Story) (result : Result NewParts StoreError) : Type 0 where
  pub now : Story
  pub tells : told ≡ Some now
  pub goes : GoesAnew dir start now result

-- ---- causes

-- the disk calls that make the folder, and those that make the files
abbrev pub folder_calls : List ℕ → List Halt
folder_calls dir = halt_at call.MakeFolder dir ∷ halt_at call.SyncNames dir ∷ []

abbrev pub file_calls : List ℕ → ℕ → List Halt
file_calls dir m = install_calls dir m
    ++ halt_at call.Create (path_in dir (Log (m + 1))) ∷ halt_at call.SyncNames (path_in dir (Log (m + 1))) ∷ []

abbrev pub anew_calls : List ℕ → List Halt
anew_calls dir = folder_calls dir ++ file_calls dir 1

-- Numbers are wanting where the log's would pass the last one; no disk call is made then. A fault raised the count of faults,
-- and one of these disk calls that was found changed that of refusals.
abbrev pub IsNewRefusal : List Halt → ℕ → Seen → Seen → StoreError → Type 0
IsNewRefusal calls m old new (error.NumbersFull next) = (next ≡ 2 ^ 56 - 1) × (2 ^ 56 ≤ m + 2) × (new ≡ old)
IsNewRefusal calls m old new error.DiskFault = Rose old.faults new.faults
IsNewRefusal calls m old new (error.Changed made path) = Rose old.refusals new.refusals × IsAmong (halt_at made path) calls
IsNewRefusal calls m old new error.NoMemory = Unit {0}
IsNewRefusal calls m old new other = ⊥

abbrev pub IsNewAnswer : {T : Type 0} → List Halt → ℕ → Seen → Seen → Result T StoreError → Type 0
IsNewAnswer calls m old new (Ok value) = m + 2 < 2 ^ 56
IsNewAnswer calls m old new (Err e) = IsNewRefusal calls m old new e

-- the answer has its cause, and no count has fallen
pub record HasNewCause {T : Type 0} (calls : List Halt) (m : ℕ) (old new : Seen) (result : Result T StoreError) : Type 0 where
  pub faults : old.faults ≤ new.faults
  pub refusals : old.refusals ≤ new.refusals
  pub answer : IsNewAnswer calls m old new result
