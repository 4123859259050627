-- What is seen of a destination over a disk, and how a refused disk call is answered.
use Rattle.std.specs.Prelude.{◌≡◌, ◌≢◌, ◌⊎◌, ℕ, ◌≤◌, List, Option, Some, None, IfSome, option_map, Result, Ok, Err}
use Rattle.lsm_names.specs.declared.file_names.FileName.{FileName}
use Rattle.std.specs.FinMap as map
use Rattle.lsm_disk.specs.Names.{Folder_node}
use Rattle.lsm_disk.specs.State.{State, Story, Seen, Change, state_of, unnamed, names_now}
use Rattle.lsm_disk.specs.Tree.{TellsLawful}
use Rattle.lsm_disk.specs.Refusals.{no_file}
use Rattle.lsm_disk.specs.Answers.{Makes, Allowed, Did, Answers}
use Rattle.lsm_disk.specs.Halts.{halt_at}
use Rattle.lsm_disk.specs.Dest.{Begun, DestSeen}
use Rattle.lsm_disk.specs.Building.{Part, with_current, IsBuilt, Finishes}
use Rattle.lsm_disk.specs.declared.calls.DiskError.{DiskError}
use Rattle.lsm_disk.specs.declared.calls.DiskError.TheVariants as disk
use Rattle.lsm_disk.specs.declared.calls.DiskCall.TheVariants as call
use Rattle.lsm_disk.specs.declared.calls.Halt.{Halt}
use Rattle.lsm_disk.specs.declared.calls.DiskRefusal.{DiskRefusal}
use Rattle.lsm_disk.specs.declared.dest.DestError.{DestError}
use Rattle.lsm_disk.specs.declared.dest.DestError.TheVariants.{Fault, Halted, Exists, Changed, NoMemory}
use Rattle.lsm_dest.specs.declared.hand.Hand.{Hand}
use Rattle.lsm_dest.specs.declared.restoring.Restoring.{Restoring}

-- the begun folder, with the names that were kept for it
abbrev pub begun_of : Option (List ℕ) → List FileName → Option Begun
begun_of folder names = option_map (λ path. record { folder = path; names = names }) folder

abbrev pub begun_in : Restoring → Option Begun
begun_in built = begun_of built.folder built.names.items

abbrev pub hand_in : Restoring → Option FileName
hand_in built = option_map (λ (hand : Hand). hand.name) built.hand

-- what is seen of a destination that keeps these
abbrev pub dest_seen : Seen → Option Halt → Restoring → DestSeen
dest_seen disk halt built = record { disk = disk; halt = halt; begun = begun_in built; hand = hand_in built }

-- A fault and want of memory are answered so, and each other refusal as a changed disk.
abbrev pub answer_by : Halt → DiskError → DestError
answer_by at disk.Fault = Fault
answer_by at disk.NoMemory = NoMemory
answer_by at other = Changed at.call at.path

-- all but want of memory halts
abbrev pub halt_by : Option Halt → Halt → DiskError → Option Halt
halt_by halt at disk.NoMemory = halt
halt_by halt at other = Some at

-- the same where the refused call was to make the folder, whose name may be taken
abbrev pub begin_answer_by : Halt → DiskError → DestError
begin_answer_by at disk.Exists = Exists
begin_answer_by at other = answer_by at other

abbrev pub begin_halt_by : Option Halt → Halt → DiskError → Option Halt
begin_halt_by halt at disk.Exists = halt
begin_halt_by halt at other = halt_by halt at other

-- the counts have not fallen
pub record IsLater (old new : Seen) : Type 0 where
  pub faults : old.faults ≤ new.faults
  pub refusals : old.refusals ≤ new.refusals

-- the folder stands now
abbrev pub StandsNow : List ℕ → State → Type 0
StandsNow folder s = map.get (names_now s) folder ≡ Some Folder_node

-- What the end of a folder leaves, by the answer that a refused disk call gets. Where it is refused the folder stands.
abbrev pub EndsAs : {T : Type 0} → State → Begun → List Part → List ℕ → Result T DiskRefusal → State → Type 0
EndsAs start begun parts current (Ok value) s = IsBuilt begun.folder (with_current current parts) s
EndsAs start begun parts current (Err r) s = Finishes {T = Unit {0}} start begun parts current (Err (answer_by r.at r.why)) s
    × StandsNow begun.folder s

-- the same by a destination's answer
abbrev pub Ended : {T : Type 0} → State → Begun → List Part → List ℕ → Result T DestError → State → Type 0
Ended start begun parts current (Ok value) s = IsBuilt begun.folder (with_current current parts) s
Ended start begun parts current (Err e) s = Finishes {T = Unit {0}} start begun parts current (Err e) s
    × StandsNow begun.folder s

-- no earlier call had halted the destination
abbrev pub NotHalted : {T : Type 0} → Result T DestError → Type 0
NotHalted result = (first : Halt) → result ≢ Err (Halted first)

-- the change was made, on a disk whose names were a tree
pub record MakesIn (c : State → Change) (old new : Seen) : Type 0 where
  pub lawful : TellsLawful old
  pub makes : Makes old.told c new.told

-- What a call changed on the disk, by one disk call that would be refused so: Ok has made the change, a fault has or not, and
-- not where it would have been refused, and no other answer has. The disk is found changed only where it would be refused.
abbrev pub DidOnce : {T : Type 0} → Type 0 → (State → Option DiskError) → Option Story → Option Story → Result T DestError → Type 0
DidOnce made refusal old new (Ok value) = made
DidOnce made refusal old new (Err Fault) = (new ≡ old) ⊎ (Allowed refusal old × made)
DidOnce made refusal old new (Err (Halted first)) = new ≡ old
DidOnce made refusal old new (Err Exists) = new ≡ old
DidOnce made refusal old new (Err (Changed call path)) = (new ≡ old) × IfSome old (λ story. refusal (state_of story) ≢ None)
DidOnce made refusal old new (Err NoMemory) = new ≡ old

-- memory was wanted after the temporary name was made
abbrev pub LeavesName : DiskRefusal → Type 0
LeavesName refusal = (refusal.why ≡ disk.NoMemory) × (refusal.at.call ≢ call.Create)

-- After a refusal that leaves the temporary name, it is taken away; and where the unlink is refused, that is the answer. After
-- each other refusal nothing is done.
pub data TakesBack (temporary : List ℕ) (refusal : DiskRefusal) (old new : Seen) (result : DiskRefusal) : Type 0 where
  Left_alone : (refusal.why ≡ disk.NoMemory → refusal.at.call ≡ call.Create) → result ≡ refusal → new ≡ old
      → TakesBack temporary refusal old new result
  Taken_away : LeavesName refusal → result ≡ refusal → Makes old.told (unnamed temporary) new.told
      → TakesBack temporary refusal old new result
  Not_taken : LeavesName refusal → (why : DiskError) → result ≡ record { at = halt_at call.Unlink temporary; why = why }
      → why ≢ disk.NoMemory → Did {T = Unit {0}} (unnamed temporary) (no_file temporary) old new (Err why)
      → Answers {T = Unit {0}} (no_file temporary) old (Err why) → TakesBack temporary refusal old new result
