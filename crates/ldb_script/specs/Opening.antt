-- What an opening, a write and a sync leave, by their answers.
use Rattle.std.specs.Prelude.{◌≡◌, ℕ, ◌+◌, ◌≤◌, ◌<◌, ◌^◌, Bool, List, [], ◌∷◌, ◌++◌, length, Option, Some, None, IsSome, IsTrue, Result, Ok, Err}
use Rattle.lsm_io.specs.Causes.{Rose}
use Rattle.lsm_disk.specs.Names.{stands}
use Rattle.lsm_disk.specs.State.{Seen, State, Story, state_of, names_now}
use Rattle.lsm_rows.specs.declared.operations.Op.{Op}
use Rattle.lsm_folder.specs.Reading.{Shown as Read}
use Rattle.lsm_folder.specs.declared.refusals.Refusal.{Refusal}
use Rattle.lsm_folder.specs.declared.refusals.Refusal.TheVariants.{NoFolder}
use Rattle.lsm_recover.specs.Shown.{AnswersShown}
use Rattle.lsm_recover.specs.declared.errors.FolderError.{FolderError}
use Rattle.lsm_recover.specs.declared.folder.Found.{Found}
use Rattle.ldb_script.specs.Folders.{TellsTaken}
use Rattle.ldb_script.specs.Filling.{Fills, HasStore}
use Rattle.ldb_script.specs.Plain.{Standing, Free, Reads, Taken, Untold, Start, Outcome, told, empty, written, all_durable, both}
use Rattle.ldb_script.specs.Stored.{Shown, Stands, log_path, manifest_path, current_path, temporary_path}
use Rattle.lsm_disk.specs.Halts.{halt_at, IsAmong}
use Rattle.lsm_disk.specs.declared.calls.DiskCall.{DiskCall}
use Rattle.lsm_disk.specs.declared.calls.DiskCall.TheVariants as call
use Rattle.lsm_disk.specs.declared.calls.Halt.{Halt}
use Rattle.lsm_publish.specs.Publishing.{publish_calls}
use Rattle.lsm_disk.specs.declared.calls.DiskError.{DiskError}
use Rattle.lsm_disk.specs.declared.calls.DiskError.TheVariants.{Fault, NotThere, Exists, NoLinks, NotEmpty, Short, NoMemory}
use Rattle.ldb_script.specs.declared.opening.OpenError.{OpenError}
use Rattle.ldb_script.specs.declared.opening.OpenError.TheVariants as open_errors
use Rattle.ldb_script.specs.declared.store.StoreError.{StoreError}
use Rattle.ldb_script.specs.declared.store.StoreError.TheVariants as store_errors

-- neither count of a disk falls
pub record SeenStay (before after : Seen) : Type 0 where
  pub faults : before.faults ≤ after.faults
  pub refusals : before.refusals ≤ after.refusals

-- where the disk tells, nothing stands under the folder's name
abbrev pub IsFree : List ℕ → Seen → Type 0
IsFree folder seen = (story : Story) → seen.told ≡ Some story → stands (names_now (state_of story)) folder ≡ None

-- where the disk tells, something does
abbrev pub IsFull : List ℕ → Seen → Type 0
IsFull folder seen = (story : Story) → seen.told ≡ Some story → IsSome (stands (names_now (state_of story)) folder)

-- A new store over an empty log, beside a new manifest and `CURRENT`: the folder's name was free. It stands where each run begins
-- whose folder this is, and which says of the disk that it tells only where it does, and which names it has.
pub record IsOpened (folder : List ℕ) (before : Seen) (shown : Shown) : Type 0 where
  pub stands : (start : Start) → start.home ≡ folder → (IsTrue start.tells → TellsTaken before.told start.taken)
      → Stands before.told shown (told (empty start) [])
  pub log : shown.log ≡ log_path folder
  pub free : IsFree folder before

-- ---- which calls an opening makes

-- those that make a file and sync it
abbrev pub file_calls : List ℕ → List Halt
file_calls path = halt_at call.Create path ∷ halt_at call.Append path ∷ halt_at call.Sync path ∷ []

-- the folder is made, and the manifest in it
abbrev pub manifest_calls : List ℕ → List Halt
manifest_calls folder = halt_at call.MakeFolder folder ∷ file_calls (manifest_path folder)

-- the log is made; a sync of names carries the path of the call before it
abbrev pub log_calls : List ℕ → List Halt
log_calls folder = halt_at call.Create (log_path folder) ∷ halt_at call.SyncNames (log_path folder) ∷ []

-- they come in this order: the manifest, the publication of `CURRENT`, the log
abbrev pub filling_calls : List ℕ → List Halt
filling_calls folder = manifest_calls folder ++ (publish_calls (temporary_path folder) (current_path folder) ++ log_calls folder)

-- before them comes a look at the folder's name
abbrev pub opening_calls : List ℕ → List Halt
opening_calls folder = halt_at call.Kind folder ∷ filling_calls folder

-- ---- what an opening leaves

-- a refused opening: why, and what is then seen of the disk
abbrev pub IsUnopened : List ℕ → Seen → Seen → OpenError → Type 0
IsUnopened folder before after open_errors.DiskFault = Rose before.faults after.faults
IsUnopened folder before after open_errors.Found = IsFull folder before × (after.told ≡ before.told)
IsUnopened folder before after (open_errors.Changed call path) =
    IsAmong (halt_at call path) (opening_calls folder) × Rose before.refusals after.refusals × (before.told ≡ None)
IsUnopened folder before after open_errors.NoMemory = IsFree folder before

-- where the disk refuses a call of an opened store
abbrev pub IsBroken : Option Story → Shown → Shown → StoreError → Type 0
IsBroken start old new store_errors.DiskFault = Rose old.disk.faults new.disk.faults
IsBroken start old new (store_errors.Changed call path) = Rose old.disk.refusals new.disk.refusals × (start ≡ None)
IsBroken start old new store_errors.NoMemory = Unit {0}

-- What a write leaves of a store that stands where a run has come: the batch is accepted, or the disk refused it.
abbrev pub Writes : Option Story → Shown → Shown → Outcome → List Op → Bool → Result ℕ StoreError → Type 0
Writes start old new outcome batch durable (Ok last) = (last ≡ outcome.after.sequence + length batch)
    × Stands start new (both outcome (written outcome.after durable batch None))
Writes start old new outcome batch durable (Err error) = IsBroken start old new error

-- the same run, with each batch durable
abbrev pub made_durable : Outcome → Outcome
made_durable outcome = record { text = outcome.text; accepted = outcome.accepted; after = all_durable outcome.after }

-- What a sync leaves of it.
abbrev pub Syncs : Option Story → Shown → Shown → Outcome → Result Unit StoreError → Type 0
Syncs start old new outcome (Ok done) = Stands start new (made_durable outcome)
Syncs start old new outcome (Err error) = IsBroken start old new error

-- How a folder's reading answers what stands under its name: as it reads, but for a fault or want of memory. Of a name that was
-- taken at the start it may be any answer of a folder that doesn't change.
abbrev pub ReadsAs : Standing → Result Found FolderError → Type 0
ReadsAs Free result = AnswersShown (Err NoFolder) result
ReadsAs (Reads shown) result = AnswersShown (Ok shown) result
ReadsAs Taken result = (read : Result Read Refusal) × AnswersShown read result
ReadsAs Untold result = Unit {0}

-- a call that writes nothing leaves the store as it was, but for the counts
pub record IsUntouched (old new : Shown) : Type 0 where
  pub told : new.disk.told ≡ old.disk.told
  pub log : new.log ≡ old.log
  pub len : new.len ≡ old.len
  pub contents : new.contents ≡ old.contents
  pub sequence : new.sequence ≡ old.sequence

-- ---- the steps of these

-- What one line leaves of a store at most: so many operations and bytes more, and the same log.
pub record ByOneLine (old new : Shown) : Type 0 where
  pub counts : SeenStay old.disk new.disk
  pub log : new.log ≡ old.log
  pub sequence : new.sequence ≤ old.sequence + 1024
  pub len : new.len ≤ old.len + 67108864

-- it has room for one line more
pub record HasRoom (shown : Shown) : Type 0 where
  pub sequence : shown.sequence + 1024 < 2 ^ 56
  pub len : shown.len < 2 ^ 63

-- what an opened store answers where the disk refuses this call
abbrev pub store_error : DiskCall → List ℕ → DiskError → StoreError
store_error call path Fault = store_errors.DiskFault
store_error call path NotThere = store_errors.Changed call path
store_error call path Exists = store_errors.Changed call path
store_error call path NoLinks = store_errors.Changed call path
store_error call path NotEmpty = store_errors.Changed call path
store_error call path (Short found) = store_errors.Changed call path
store_error call path NoMemory = store_errors.NoMemory

-- what an opening answers there
abbrev pub open_error : DiskCall → List ℕ → DiskError → OpenError
open_error call path Fault = open_errors.DiskFault
open_error call path NotThere = open_errors.Changed call path
open_error call path Exists = open_errors.Changed call path
open_error call path NoLinks = open_errors.Changed call path
open_error call path NotEmpty = open_errors.Changed call path
open_error call path (Short found) = open_errors.Changed call path
open_error call path NoMemory = open_errors.NoMemory

-- where the disk told a state with P, it tells one later that R relates to it
abbrev pub Leads : (State → Type 0) → (State → State → Type 0) → Option Story → Option Story → Type 0
Leads P R old new = (story : Story) → old ≡ Some story → P (state_of story)
    → (later : Story) × (new ≡ Some later) × R (state_of story) (state_of later)

-- One of these calls was refused, by a fault, by want of memory, or by a disk that told no state with P.
abbrev pub IsHindered : List Halt → (State → Type 0) → Seen → Seen → OpenError → Type 0
IsHindered calls P old new open_errors.DiskFault = Rose old.faults new.faults
IsHindered calls P old new open_errors.Found = ⊥
IsHindered calls P old new (open_errors.Changed call path) =
    IsAmong (halt_at call path) calls × Rose old.refusals new.refusals × ((story : Story) → old.told ≡ Some story → ¬ P (state_of story))
IsHindered calls P old new open_errors.NoMemory = Unit {0}

-- the folder and its files were made, or why not
abbrev pub MakesOr : {T : Type 0} → List ℕ → Seen → Seen → Result T OpenError → Type 0
MakesOr folder before after (Ok log) = (story : Story) → before.told ≡ Some story
    → (later : Story) × (after.told ≡ Some later) × Fills folder (HasStore folder) (state_of story) (state_of later)
MakesOr folder before after (Err why) = IsUnopened folder before after why
