-- What is seen of a destination, and what its calls answer.
use Rattle.std.specs.Prelude.{◌≡◌, ℕ, ◌≤◌, List, [], ◌∷◌, ◌++◌, is_some, true, Option, Some, None, IfSome, IfErr, Result, Ok, Err}
use Rattle.lsm_io.specs.Causes.{Rose}
use Rattle.lsm_names.specs.FileNames.{spelled, IsFileName}
use Rattle.lsm_names.specs.declared.file_names.FileName.{FileName}
use Rattle.lsm_names.specs.declared.file_names.FileName.TheVariants.{Log, Table, Manifest, Temp, Current}
use Rattle.lsm_disk.specs.Names.{stands}
use Rattle.lsm_disk.specs.State.{Seen, state_of, names_now}
use Rattle.lsm_disk.specs.declared.calls.DiskCall.{DiskCall}
use Rattle.lsm_disk.specs.declared.calls.DiskCall.TheVariants as call
use Rattle.lsm_disk.specs.declared.calls.Halt.{Halt}
use Rattle.lsm_disk.specs.Halts.{halt_at, IsAmong}
use Rattle.lsm_disk.specs.declared.dest.DestError.{DestError}
use Rattle.lsm_disk.specs.declared.dest.DestError.TheVariants.{Fault, Halted, Exists, Changed, NoMemory}

-- the folder that was begun, and the names that its files were given, the first one first
pub record Begun : Type 0 where
  pub folder : List ℕ
  pub names : List FileName

-- The counts are those of the disk below. Where no folder is begun, no file is in hand.
pub record DestSeen : Type 0 where
  pub disk : Seen
  pub halt : Option Halt
  pub begun : Option Begun
  pub hand : Option FileName

abbrev pub just_begun : List ℕ → Begun
just_begun folder = record { folder = folder; names = [] }

abbrev pub with_name : FileName → Begun → Begun
with_name name begun = record { folder = begun.folder; names = begun.names ++ name ∷ [] }

-- The names of a folder's files: all but `CURRENT`, which ends the folder, and temporary ones.
abbrev pub IsPartName : FileName → Type 0
IsPartName (Log number) = IsFileName (Log number)
IsPartName (Table number) = IsFileName (Table number)
IsPartName (Manifest number) = IsFileName (Manifest number)
IsPartName (Temp number) = ⊥
IsPartName Current = ⊥

-- the path of a name in a folder
abbrev pub path_in : List ℕ → FileName → List ℕ
path_in folder name = folder ++ 47 ∷ spelled name

-- under which `CURRENT` is written before it is renamed
abbrev pub temporary : FileName
temporary = Temp 1

-- ---- which disk calls a call makes

abbrev pub begin_calls : List ℕ → List Halt
begin_calls folder = halt_at call.MakeFolder folder ∷ []

-- a call on one file of the begun folder
abbrev pub part_calls : DiskCall → Option Begun → Option FileName → List Halt
part_calls call None name = []
part_calls call (Some begun) None = []
part_calls call (Some begun) (Some name) = halt_at call (path_in begun.folder name) ∷ []

-- The names are synced, `CURRENT` is written under its temporary name, and renamed; where memory is wanted, the temporary
-- name is taken away again.
abbrev pub finish_calls : Option Begun → List Halt
finish_calls None = []
finish_calls (Some begun) =
    let temporary_path = path_in begun.folder temporary in
    let current_path = path_in begun.folder Current in
    halt_at call.SyncNames begun.folder
    ∷ halt_at call.Create temporary_path ∷ halt_at call.Append temporary_path ∷ halt_at call.Sync temporary_path
    ∷ halt_at call.SyncNames temporary_path
    ∷ halt_at call.Rename current_path ∷ halt_at call.SyncNames current_path ∷ halt_at call.Unlink temporary_path ∷ []

-- ---- the halting call

-- one of these disk calls halts it now
abbrev pub IsHaltedAt : List Halt → Option Halt → Type 0
IsHaltedAt calls halt = (at : Halt) × (halt ≡ Some at) × IsAmong at calls

-- `Halted` comes exactly where there is a halting call, and leaves all as it is. A fault and a changed disk halt at the disk
-- call that met it, and no other answer does.
abbrev pub HaltsAt : {T : Type 0} → List Halt → DestSeen → DestSeen → Result T DestError → Type 0
HaltsAt calls old new (Ok value) = (old.halt ≡ None) × (new.halt ≡ None)
HaltsAt calls old new (Err Fault) = (old.halt ≡ None) × IsHaltedAt calls new.halt
HaltsAt calls old new (Err (Halted first)) = (old.halt ≡ Some first) × (new ≡ old)
HaltsAt calls old new (Err Exists) = (old.halt ≡ None) × (new.halt ≡ None)
HaltsAt calls old new (Err (Changed call path)) = (old.halt ≡ None) × (new.halt ≡ Some (halt_at call path))
    × IsAmong (halt_at call path) calls
HaltsAt calls old new (Err NoMemory) = (old.halt ≡ None) × (new.halt ≡ None)

-- ---- the folder and the file in hand

-- After Ok these are the folder and the file in hand. A refused call leaves them.
abbrev pub Leaves : {T : Type 0} → Option Begun → Option FileName → DestSeen → DestSeen → Result T DestError → Type 0
Leaves begun hand old new (Ok value) = (new.begun ≡ begun) × (new.hand ≡ hand)
Leaves begun hand old new (Err e) = (new.begun ≡ old.begun) × (new.hand ≡ old.hand)

-- ---- which answer it is

abbrev pub TakenBy : {T : Type 0} → Type 0 → Type 0 → Result T DestError → Type 0
TakenBy free taken (Ok value) = free
TakenBy free taken (Err Fault) = Unit {0}
TakenBy free taken (Err (Halted first)) = Unit {0}
TakenBy free taken (Err Exists) = taken
TakenBy free taken (Err (Changed call path)) = ⊥
TakenBy free taken (Err NoMemory) = Unit {0}

-- Where the disk tells: Ok comes only where the name is free, `Exists` only where it is taken, and `Changed` never.
abbrev pub IsTakenExactly : {T : Type 0} → List ℕ → DestSeen → Result T DestError → Type 0
IsTakenExactly folder seen result = IfSome seen.disk.told (λ story.
    TakenBy (stands (names_now (state_of story)) folder ≡ None) (is_some (stands (names_now (state_of story)) folder) ≡ true) result)

-- only a new folder's name can be taken
abbrev pub NeverExists : {T : Type 0} → Result T DestError → Type 0
NeverExists result = result ≡ Err Exists → ⊥

abbrev pub NeedsNoMemory : {T : Type 0} → Result T DestError → Type 0
NeedsNoMemory result = result ≡ Err NoMemory → ⊥

-- ---- the counts

-- which count rose in the call
abbrev pub CountRose : Seen → Seen → DestError → Type 0
CountRose old new Fault = Rose old.faults new.faults
CountRose old new (Halted first) = Unit {0}
CountRose old new Exists = Rose old.refusals new.refusals
CountRose old new (Changed call path) = Rose old.refusals new.refusals
CountRose old new NoMemory = Unit {0}

pub record HasDestCause {T : Type 0} (old new : Seen) (result : Result T DestError) : Type 0 where
  pub faults_later : old.faults ≤ new.faults
  pub refusals_later : old.refusals ≤ new.refusals
  pub counted : IfErr result (CountRose old new)
