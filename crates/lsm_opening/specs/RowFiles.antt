-- A new file that is written at one path, and nothing else.
use Rattle.std.specs.Prelude.{◌≡◌, ℕ, List, [], length, Option, Result, Ok, Err}
use Rattle.lsm_disk.specs.State.{State, Story, state_of}
use Rattle.lsm_disk.specs.Goes.{Went}
use Rattle.lsm_disk.specs.Kept.{IsFileNow, IsKeptFile}
use Rattle.lsm_disk.specs.Building.{sealed}
use Rattle.lsm_disk.specs.declared.calls.DiskRefusal.{DiskRefusal}
use Rattle.lsm_refine.specs.Beside.{WritesNew}

-- Since the start the disk has gone on by the making and the writing of the next file at this path, and of its state now J
-- holds.
abbrev pub WritesFile : List ℕ → Story → Option Story → (State → Type 0) → Type 0
WritesFile path start told J = Went start told (WritesNew path (length (state_of start).files)) (λ x t. Unit {0}) J

-- the file has these bytes now, none of them synced
abbrev pub HasSoFar : List ℕ → Story → List ℕ → State → Type 0
HasSoFar path start bytes x = IsFileNow x path (length (state_of start).files) (record { synced = []; unsynced = bytes })

-- the file has these bytes and its name for good, and no operation on names is pending
pub record IsSealedAs (path : List ℕ) (start : Story) (bytes : List ℕ) (x : State) : Type 0 where
  pub file : IsKeptFile x path (length (state_of start).files) (sealed bytes)
  pub settled : x.pending ≡ []

-- so it is where the answer is Ok; a refusal says nothing of the file
abbrev pub WhereOk : {T : Type 0} → (T → State → Type 0) → Result T DiskRefusal → State → Type 0
WhereOk J (Ok value) x = J value x
WhereOk J (Err refused) x = Unit {0}
