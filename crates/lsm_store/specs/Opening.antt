-- The opening of a store: with what it begins, where that leads, and why it is refused.
use Rattle.std.specs.Prelude.{◌≡◌, ℕ, ◌+◌, ◌-◌, ◌^◌, ◌<◌, ◌≤◌, List, [], All, Option, Some, None, Result, IfOk, IfErr}
use Rattle.std.specs.FinMap as finmap
use Rattle.lsm_io.specs.Causes.{Rose}
use Rattle.lsm_names.specs.FileNames.{IsFileName}
use Rattle.lsm_names.specs.declared.file_names.FileName.TheVariants.{Log, Manifest}
use Rattle.lsm_disk.specs.State.{Seen, Story, Names_synced, after, state_of}
use Rattle.lsm_disk.specs.Goes.{Went}
use Rattle.lsm_disk.specs.Dest.{path_in}
use Rattle.lsm_disk.specs.declared.calls.DiskCall.TheVariants as call
use Rattle.lsm_version.specs.Versions.{empty_version}
use Rattle.lsm_folder.specs.Files.{place_of}
use Rattle.lsm_folder.specs.Needed.{IsFresh}
use Rattle.lsm_disk.specs.Images.{tree_now}
use Rattle.lsm_recover.specs.declared.errors.FolderError.{FolderError}
use Rattle.lsm_recover.specs.declared.errors.FolderError.TheVariants as folder
use Rattle.lsm_opening.specs.declared.errors.OpenError.{OpenError}
use Rattle.lsm_opening.specs.declared.errors.OpenError.TheVariants as opening
use Rattle.lsm_opening.specs.declared.installing.Recovered.{Recovered}
use Rattle.lsm_opening.specs.Numbers.{AreTablesBefore}
use Rattle.lsm_model.specs.declared.errors.StoreError.{StoreError}
use Rattle.lsm_model.specs.declared.errors.StoreError.TheVariants as error
use Rattle.lsm_model.specs.declared.states.State.{State}
use Rattle.lsm_core.specs.Catalogs.{kept_with}
use Rattle.lsm_refine.specs.Kept.{Shown}
use Rattle.lsm_refine.specs.Grown.{IsDrawn}
use Rattle.lsm_refine.specs.Pins.{AreClearable}
use Rattle.lsm_refine.specs.WholeEdits.{AreInRange}
use Rattle.lsm_refine.specs.Openings.{IsFound, IsKeptImage, IsNewStore, OpensTo, HasOpened, LosesNothing}
use Rattle.lsm_flush.specs.declared.frozen.Held.TheVariants.{Rows}
use Rattle.lsm_store.specs.Inside.{Inner, shown_of}
use Rattle.lsm_store.specs.Answering.{error_of}
use Rattle.lsm_store.specs.Showing.{folder_error}
use Rattle.lsm_store.specs.declared.opening.Begun.{Begun}
use Rattle.lsm_store.specs.declared.opening_new.NewParts.{NewParts}

-- ---- with what a store begins

-- what it holds then: no row in memory, one log, and no open table
abbrev pub begun_inner : Seen → List ℕ → Begun → Inner
begun_inner seen dir b = record {
  disk = seen;
  home = dir;
  wal = b.wal;
  log = b.log;
  older = None;
  older_len = 0;
  active = [];
  frozen = Rows [];
  sequence = b.sequence;
  next = b.log + 1;
  known = b.known.items;
  halt = None;
  manifest = b.manifest;
  catalog = kept_with b.version finmap.empty b.log b.sequence [] 0 0;
  begun = None;
  hand = None;
}

abbrev pub begun_store : Seen → List ℕ → Begun → Shown
begun_store seen dir b = shown_of (begun_inner seen dir b)

-- numbers, tables and the sequence are in range, names are files' and have drawn numbers, as tables have, and the manifest and
-- the log are the folder's
pub record IsSoundBegun (dir : List ℕ) (b : Begun) : Type 0 where
  pub some : 1 ≤ b.log
  pub most : b.log + 1 < 2 ^ 56
  pub last : b.sequence < 2 ^ 56
  pub fit : All IsFileName b.known.items
  pub names : All (IsDrawn (b.log + 1)) b.known.items
  pub manifest_in : b.manifest.dir ≡ dir
  pub manifest_is : b.manifest.path ≡ path_in dir (Manifest b.manifest.number)
  pub wal_is : b.wal.path ≡ path_in dir (Log b.log)
  pub range : AreInRange b.version
  pub below : AreTablesBefore b.log b.version

-- what a new store begins with, whose manifest has this number
abbrev pub new_begun : NewParts → ℕ → Begun
new_begun parts m = record {
  version = empty_version;
  known = parts.known;
  manifest = parts.manifest;
  wal = parts.wal;
  log = m + 1;
  sequence = 0;
}

-- it begins with what an opening of a folder that stands left
pub record IsBegunBy (r : Recovered) (b : Begun) : Type 0 where
  pub version : b.version ≡ r.version
  pub known : b.known.items ≡ r.names
  pub manifest : b.manifest ≡ r.manifest
  pub wal : b.wal ≡ r.wal
  pub log : b.log ≡ r.log
  pub sequence : b.sequence ≡ r.sequence

-- ---- errors

-- how a store tells why its own folder can't be read: as that of any other, but one that stood there and is gone has changed
abbrev pub own_error : FolderError → StoreError
own_error (folder.NoFolder dir) = error.Changed call.List dir
own_error why = folder_error why

abbrev pub open_error : OpenError → StoreError
open_error (opening.Folder why) = own_error why
open_error (opening.Disk refused) = error_of refused
open_error (opening.TablesFull live adding) = error.TablesFull live adding
open_error (opening.NumbersFull next) = error.NumbersFull next

-- ---- causes

-- A fault raised the count of faults. A file that isn't there, or somebody else's change, raised that of refusals. There would
-- be too many tables, or the last number that is wanted isn't there. Other errors say what the folder's bytes are, or that
-- memory is wanting. No other error comes.
abbrev pub IsOpenRefusal : List ℕ → Seen → Seen → StoreError → Type 0
IsOpenRefusal dir old new error.DiskFault = Rose old.faults new.faults
IsOpenRefusal dir old new (error.Missing name) = Rose old.refusals new.refusals
IsOpenRefusal dir old new (error.Changed made path) = Rose old.refusals new.refusals
IsOpenRefusal dir old new (error.NoCurrent at) = at ≡ dir
IsOpenRefusal dir old new (error.TablesFull live adding) = (4096 < live + adding) × (adding ≤ 1)
IsOpenRefusal dir old new (error.NumbersFull next) = next ≡ 2 ^ 56 - 1
IsOpenRefusal dir old new (error.Short name kept found) = Unit {0}
IsOpenRefusal dir old new (error.Damaged name place kept found) = Unit {0}
IsOpenRefusal dir old new (error.Malformed name place) = Unit {0}
IsOpenRefusal dir old new (error.TornLog name place) = Unit {0}
IsOpenRefusal dir old new (error.Gap name kept found) = Unit {0}
IsOpenRefusal dir old new (error.BadLevels level left right) = Unit {0}
IsOpenRefusal dir old new error.NoMemory = Unit {0}
IsOpenRefusal dir old new other = ⊥

-- the answer has its cause on every disk, and no count has fallen
pub record OpenedBy {T : Type 0} (dir : List ℕ) (old new : Seen) (answer : Result T StoreError) : Type 0 where
  pub faults : old.faults ≤ new.faults
  pub refusals : old.refusals ≤ new.refusals
  pub cause : IfErr answer (IsOpenRefusal dir old new)

-- ---- behind the sync of names

-- the story is behind a sync of names, and nothing else has changed
abbrev pub IsBehindSync : Story → Story → Type 0
IsBehindSync before mid = state_of mid ≡ after (state_of before) Names_synced

-- the store is good for what the opening makes of whatever state was found; and it is a new one where the folder was fresh
pub record LeadsFrom (before : Story) (dir : List ℕ) (v : Shown) : Type 0 where
  pub leads : (s : State) → s.own ≡ dir → IsFound (state_of before) s → OpensTo s v
  pub fresh : IsFresh (place_of dir (tree_now (state_of before))) → AreClearable (state_of before) → IsNewStore before dir v

-- whatever was found, the disk has gone on from the sync so that each image on the way is kept
abbrev pub KeepsFrom : Story → List ℕ → Story → Option Story → Type 0
KeepsFrom before dir mid told = (s : State) → s.own ≡ dir → IsFound (state_of before) s
    → Went mid told (λ c. Unit {0}) (λ x t. IsKeptImage dir (state_of before) t) (λ x. Unit {0})

-- From behind the sync an Ok has led to a store, and each image on the way is kept. The answer has its cause.
pub record Begins (dir : List ℕ) (old new : Seen) (result : Result Begun StoreError) : Type 0 where
  pub sound : IfOk result (IsSoundBegun dir)
  pub leads : IfOk result (λ b. (before mid : Story) → old.told ≡ Some mid → IsBehindSync before mid
      → LeadsFrom before dir (begun_store new dir b))
  pub keeps : (before mid : Story) → old.told ≡ Some mid → IsBehindSync before mid → KeepsFrom before dir mid new.told
  pub by : OpenedBy dir old new result

-- so it is from before the sync
pub record Opens (dir : List ℕ) (old new : Seen) (result : Result Begun StoreError) : Type 0 where
  pub sound : IfOk result (IsSoundBegun dir)
  pub opened : IfOk result (λ b. (before : Story) → old.told ≡ Some before → HasOpened before dir (begun_store new dir b))
  pub moments : (before : Story) → old.told ≡ Some before → LosesNothing before dir new.told
  pub by : OpenedBy dir old new result
