-- A restore's calls on the store as the place of one new folder.
use Rattle.std.specs.Prelude.{◌≡◌, ◌⊎◌, ℕ, Bool, true, false, List, [], ◌∷◌, ◌++◌, Option, Some, None, Result, Ok, Err}
use Rattle.lsm_disk.specs.declared.calls.DiskCall.{DiskCall}
use Rattle.lsm_disk.specs.Dest.{just_begun, begin_calls, finish_calls}
use Rattle.lsm_disk.specs.declared.dest.DestError.{DestError}
use Rattle.lsm_disk.specs.declared.dest.DestError.TheVariants.{Fault, Halted, Exists, Changed, NoMemory}
use Rattle.lsm_model.specs.declared.errors.StoreError.{StoreError}
use Rattle.lsm_model.specs.declared.errors.StoreError.TheVariants.{NoCurrent}
use Rattle.lsm_model.specs.declared.replies.Shown.{Shown}
use Rattle.lsm_model.specs.declared.states.State.{State}
use Rattle.lsm_model.specs.declared.states.FolderRead.{FolderRead}
use Rattle.lsm_model.specs.States.{with_folder}
use Rattle.lsm_model.specs.Halting.{Aimed, A_file_in, exactly}
use Rattle.lsm_model.specs.Moves.{Becomes, Halts}
use Rattle.lsm_model.specs.Causes.{is_taken}

-- a folder that has no `CURRENT` yet
abbrev pub unfinished : List ℕ → FolderRead
unfinished dir = record { name = dir; reading = Err (NoCurrent dir); sure = false }

-- that folder is there
abbrev pub with_unfinished : List ℕ → State → State
with_unfinished dir s = record s { folders = s.folders ++ unfinished dir ∷ [] }

-- it is there, and the begun one
abbrev pub with_begun : List ℕ → State → State
with_begun dir s = record (with_unfinished dir s) { begun = Some dir }

-- Begins a folder, where its name is free. After a fault it is there without `CURRENT`, or not at all; it isn't begun.
abbrev pub BeginsFolder : State → List ℕ → Result (Unit {0}) DestError → State → Type 0
BeginsFolder s dir (Ok done) t = (s.halt ≡ None) × (is_taken dir s ≡ false) × Becomes (with_begun dir s) t
BeginsFolder s dir (Err Fault) t = (s.halt ≡ None)
    × (Halts (exactly (begin_calls dir)) s t ⊎ ((is_taken dir s ≡ false) × Halts (exactly (begin_calls dir)) (with_unfinished dir s) t))
BeginsFolder s dir (Err (Halted first)) t = (s.halt ≡ Some first) × (t ≡ s)
BeginsFolder s dir (Err Exists) t = (s.halt ≡ None) × (is_taken dir s ≡ true) × Becomes s t
BeginsFolder s dir (Err (Changed call path)) t = ⊥
BeginsFolder s dir (Err NoMemory) t = (s.halt ≡ None) × Becomes s t

-- this disk call, on a file of the begun folder
abbrev pub fill_calls : DiskCall → Option (List ℕ) → List Aimed
fill_calls call None = []
fill_calls call (Some dir) = (call, A_file_in dir) ∷ []

-- A file is made, added to or ended, by one disk call: the folder has no `CURRENT` before and after.
abbrev pub FillsFolder : DiskCall → State → Result (Unit {0}) DestError → State → Type 0
FillsFolder call s (Ok done) t = (s.halt ≡ None) × Becomes s t
FillsFolder call s (Err Fault) t = (s.halt ≡ None) × Halts (fill_calls call s.begun) s t
FillsFolder call s (Err (Halted first)) t = (s.halt ≡ Some first) × (t ≡ s)
FillsFolder call s (Err Exists) t = ⊥
FillsFolder call s (Err (Changed at path)) t = ⊥
FillsFolder call s (Err NoMemory) t = (s.halt ≡ None) × Becomes s t

-- the begun folder reads so now
abbrev pub with_reading : List ℕ → Result Shown StoreError → Bool → State → State
with_reading dir reading sure s = record s { folders = with_folder (record { name = dir; reading = reading; sure = sure }) s.folders }

-- The folder has its `CURRENT`, and reads as its files say. No folder is begun any more. Not said here: as what it reads.
pub record IsPublished (s t : State) : Type 0 where
  pub dir : List ℕ
  pub reading : Result Shown StoreError
  pub begun : s.begun ≡ Some dir
  pub rest : Becomes (record (with_reading dir reading true s) { begun = None }) t

-- The folder may have its `CURRENT`; a crash may take it away again. It stays the begun one.
pub record FailsPublishing (s t : State) : Type 0 where
  pub dir : List ℕ
  pub reading : Result Shown StoreError
  pub begun : s.begun ≡ Some dir
  pub halts : Halts (exactly (finish_calls (Some (just_begun dir)))) s t
      ⊎ Halts (exactly (finish_calls (Some (just_begun dir)))) (with_reading dir reading false s) t

abbrev pub FinishesFolder : State → Result (Unit {0}) DestError → State → Type 0
FinishesFolder s (Ok done) t = (s.halt ≡ None) × IsPublished s t
FinishesFolder s (Err Fault) t = (s.halt ≡ None) × FailsPublishing s t
FinishesFolder s (Err (Halted first)) t = (s.halt ≡ Some first) × (t ≡ s)
FinishesFolder s (Err Exists) t = ⊥
FinishesFolder s (Err (Changed call path)) t = ⊥
FinishesFolder s (Err NoMemory) t = (s.halt ≡ None) × Becomes s t
