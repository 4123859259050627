-- A file that is written under a temporary name and then takes another name.
use Rattle.std.specs.Prelude.{◌≡◌, ◌≢◌, ◌⊎◌, ℕ, if◌then◌else◌, List, [], ◌∷◌, ◌++◌, length, take, Some, None, Option, IfSome, IfErr, Result, Ok, Err}
use Rattle.std.specs.FinMap as map
use Rattle.lsm_names.specs.Paths.{parent_of}
use Rattle.lsm_disk.specs.Names.{NameOp, Put, Gone, Moved, Names, is_folder}
use Rattle.lsm_disk.specs.State.{FileState, State, Seen, Change, Created, Named, Appended, Synced, Names_synced, Idle, new_file, longer, names_now, state_of}
use Rattle.lsm_disk.specs.Images.{Tree, IsImage, bytes_at}
use Rattle.lsm_disk.specs.Kept.{IsKeptName, IsKeptFile, IsFileNow, HasCut}
use Rattle.lsm_disk.specs.Answers.{LeftBy, RefusesBy}
use Rattle.lsm_disk.specs.Halts.{halt_at}
use Rattle.lsm_disk.specs.Refusals.{never, no_room, no_rename, or_else}
use Rattle.lsm_disk.specs.declared.calls.DiskError.{DiskError}
use Rattle.lsm_disk.specs.declared.calls.DiskError.TheVariants.{NotThere, Exists, NoMemory}
use Rattle.lsm_disk.specs.declared.calls.DiskCall.{DiskCall}
use Rattle.lsm_disk.specs.declared.calls.DiskCall.TheVariants as call
use Rattle.lsm_disk.specs.declared.calls.Halt.{Halt}
use Rattle.lsm_disk.specs.declared.calls.DiskRefusal.{DiskRefusal}

-- What a name has, now and after each crash: nothing, this file, or whatever it is.
pub data Old : Type 0 where
  No_file : Old
  The_file : (id : ℕ) (f : FileState) → Old
  Not_known : Old

abbrev pub StillHas : List ℕ → Old → State → Type 0
StillHas path No_file s = IsKeptName s path None
StillHas path (The_file id f) s = IsKeptFile s path id f
StillHas path Not_known s = Unit {0}

-- the image has under the name what it had: nothing, the file, cut, or whatever it was
abbrev pub ShowsOld : List ℕ → Old → Tree → Type 0
ShowsOld path No_file t = map.get t.names path ≡ None
ShowsOld path (The_file id f) t = HasCut path f t
ShowsOld path Not_known t = Unit {0}

abbrev pub HasOld : List ℕ → Old → State → Tree → Type 0
HasOld path old s t = ShowsOld path old t

-- the image has under the name what it had, or a file of exactly these bytes
abbrev pub HasOldOrNew : List ℕ → Old → List ℕ → State → Tree → Type 0
HasOldOrNew path old bytes s t = ShowsOld path old t ⊎ (bytes_at t path ≡ Some bytes)

-- ---- the footprint

-- the new file is made and filled, and names are synced
abbrev pub Writes : List ℕ → ℕ → Change → Type 0
Writes temporary id (Created other) = other ≡ temporary
Writes temporary id (Named op) = ⊥
Writes temporary id (Appended k bytes) = k ≡ id
Writes temporary id (Synced k) = k ≡ id
Writes temporary id Names_synced = Unit {0}
Writes temporary id Idle = Unit {0}

abbrev pub IsMove : List ℕ → List ℕ → NameOp → Type 0
IsMove temporary path (Put other node) = ⊥
IsMove temporary path (Gone other) = ⊥
IsMove temporary path (Moved from to) = (from ≡ temporary) × (to ≡ path)

-- it is renamed, and names are synced
abbrev pub Switches : List ℕ → List ℕ → Change → Type 0
Switches temporary path (Created other) = ⊥
Switches temporary path (Named op) = IsMove temporary path op
Switches temporary path (Appended k bytes) = ⊥
Switches temporary path (Synced k) = ⊥
Switches temporary path Names_synced = Unit {0}
Switches temporary path Idle = Unit {0}

-- the one and the other
abbrev pub Publishes : List ℕ → List ℕ → ℕ → Change → Type 0
Publishes temporary path id c = Writes temporary id c ⊎ Switches temporary path c

-- ---- how far it came

-- a file of these bytes, all of them synced
abbrev pub written : List ℕ → FileState
written bytes = record { synced = bytes; unsynced = [] }

-- the new file is another than the one that the name has
abbrev pub IsOther : Old → ℕ → Type 0
IsOther No_file id = Unit {0}
IsOther (The_file k f) id = k ≢ id
IsOther Not_known id = Unit {0}

-- nothing was made: the next new file has this number
pub record IsBegun (path : List ℕ) (old : Old) (id : ℕ) (s : State) : Type 0 where
  pub still : StillHas path old s
  pub next : length s.files ≡ id

-- the temporary name leads to the new file, which is in this state, and the name has what it had
pub record IsWriting (temporary path : List ℕ) (old : Old) (id : ℕ) (f : FileState) (s : State) : Type 0 where
  pub still : StillHas path old s
  pub new : IsFileNow s temporary id f
  pub other : IsOther old id

-- the new file and its temporary name outlive a crash
pub record IsReady (temporary path : List ℕ) (old : Old) (id : ℕ) (bytes : List ℕ) (s : State) : Type 0 where
  pub still : StillHas path old s
  pub new : IsKeptFile s temporary id (written bytes)

-- the name leads to the new file now, and in each image to that or to what it had
pub record IsSwitching (path : List ℕ) (old : Old) (id : ℕ) (bytes : List ℕ) (s : State) : Type 0 where
  pub leads : (t : Tree) → IsImage s t → HasOldOrNew path old bytes s t
  pub new : IsFileNow s path id (written bytes)

-- the name leads to the new file, whole, now and after each crash
abbrev pub IsPublished : List ℕ → ℕ → List ℕ → State → Type 0
IsPublished path id bytes s = IsKeptFile s path id (written bytes)

-- A refused call left this, and this is why it was refused, unless it was a fault or want of memory.
pub record IsLeft (Was : State → Type 0) (refusal : State → Option DiskError) (why : DiskError) (s : State) : Type 0 where
  pub left : Was s
  pub by : RefusesBy (refusal s) why

-- What a refused call left of the writing: a fault may have made the change, of an append a front, and any other refusal has not.
abbrev pub WriteLeft : List ℕ → List ℕ → Old → ℕ → List ℕ → DiskCall → DiskError → State → Type 0
WriteLeft temporary path old id bytes call.Create why s = IsLeft
    (λ s. LeftBy (IsBegun path old id s) (IsWriting temporary path old id new_file s) why) (no_room temporary) why s
WriteLeft temporary path old id bytes call.Append why s = IsLeft
    (λ s. LeftBy (IsWriting temporary path old id new_file s)
    ((n : ℕ) × IsWriting temporary path old id (longer (take n bytes) new_file) s) why) never why s
WriteLeft temporary path old id bytes call.Sync why s = IsLeft
    (λ s. LeftBy (IsWriting temporary path old id (longer bytes new_file) s)
    (IsWriting temporary path old id (written bytes) s) why) never why s
WriteLeft temporary path old id bytes call.SyncNames why s =
    IsLeft (λ s. LeftBy (IsWriting temporary path old id (written bytes) s) (IsReady temporary path old id bytes s) why) never why s
WriteLeft temporary path old id bytes other why s = ⊥

-- The file is written whole, or this call was refused.
abbrev pub Written : List ℕ → List ℕ → Old → ℕ → List ℕ → Result (Unit {0}) DiskRefusal → State → Type 0
Written temporary path old id bytes (Ok value) s = IsReady temporary path old id bytes s
Written temporary path old id bytes (Err e) s = (e.at.path ≡ temporary) × WriteLeft temporary path old id bytes e.at.call e.why s

-- what a refused call left of the switch
abbrev pub SwitchLeft : List ℕ → List ℕ → Old → ℕ → List ℕ → DiskCall → DiskError → State → Type 0
SwitchLeft temporary path old id bytes call.Rename why s = IsLeft
    (λ s. LeftBy (IsReady temporary path old id bytes s) (IsSwitching path old id bytes s) why) (no_rename temporary path) why s
SwitchLeft temporary path old id bytes call.SyncNames why s =
    IsLeft (λ s. LeftBy (IsSwitching path old id bytes s) (IsPublished path id bytes s) why) never why s
SwitchLeft temporary path old id bytes other why s = ⊥

-- The name has the new file for good, or this call was refused.
abbrev pub Switched : List ℕ → List ℕ → Old → ℕ → List ℕ → Result (Unit {0}) DiskRefusal → State → Type 0
Switched temporary path old id bytes (Ok value) s = IsPublished path id bytes s
Switched temporary path old id bytes (Err e) s = (e.at.path ≡ path) × SwitchLeft temporary path old id bytes e.at.call e.why s

-- The name has the new file for good, or the writing or the switch was refused.
abbrev pub Published : List ℕ → List ℕ → Old → ℕ → List ℕ → Result (Unit {0}) DiskRefusal → State → Type 0
Published temporary path old id bytes (Ok value) s = IsPublished path id bytes s
Published temporary path old id bytes (Err e) s = Written temporary path old id bytes (Err e) s
    ⊎ Switched temporary path old id bytes (Err e) s

-- ---- which call was refused, and by which answer

-- the calls of the writing, and those of the switch
abbrev pub write_calls : List ℕ → List Halt
write_calls temporary = halt_at call.Create temporary ∷ halt_at call.Append temporary ∷ halt_at call.Sync temporary
    ∷ halt_at call.SyncNames temporary ∷ []

abbrev pub switch_calls : List ℕ → List Halt
switch_calls path = halt_at call.Rename path ∷ halt_at call.SyncNames path ∷ []

abbrev pub publish_calls : List ℕ → List ℕ → List Halt
publish_calls temporary path = write_calls temporary ++ switch_calls path

-- a file may take the name: its folder has to be there, and no folder may have the name
abbrev pub no_place_in : List ℕ → Names → Option DiskError
no_place_in path names = if is_folder names (parent_of path) then (if is_folder names path then Some Exists else None) else Some NotThere

abbrev pub no_place : List ℕ → State → Option DiskError
no_place path s = no_place_in path (names_now s)

-- the temporary name has to be free, and a file has to be able to take the other one
abbrev pub no_publishing : List ℕ → List ℕ → State → Option DiskError
no_publishing temporary path s = or_else (no_room temporary s) (no_place path s)

abbrev pub AnswersBy : {T : Type 0} → Option DiskError → Result T DiskRefusal → Type 0
AnswersBy refusal (Ok value) = refusal ≡ None
AnswersBy refusal (Err r) = RefusesBy refusal r.why

-- Where the disk tells: a refusal that is no fault and no want of memory comes only where the state before the call has it,
-- and Ok only where nothing is refused.
abbrev pub AnswersAs : {T : Type 0} → (State → Option DiskError) → Seen → Result T DiskRefusal → Type 0
AnswersAs refusal seen result = IfSome seen.told (λ story. AnswersBy (refusal (state_of story)) result)

-- the call after this one is made where nothing refused this one
abbrev pub PassedFirst : {T : Type 0} → DiskCall → (State → Option DiskError) → Seen → Result T DiskRefusal → Type 0
PassedFirst first refusal seen result = IfErr result (λ r. r.at.call ≢ first → IfSome seen.told (λ story. refusal (state_of story) ≡ None))

-- no sync is refused for want of memory
abbrev pub SyncsNeedNoMemory : {T : Type 0} → Result T DiskRefusal → Type 0
SyncsNeedNoMemory result = IfErr result (λ r. (r.at.call ≡ call.Sync) ⊎ (r.at.call ≡ call.SyncNames) → r.why ≢ NoMemory)
