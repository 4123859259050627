-- What a restore's calls, and calls that take views back, move of a state's core.
use Rattle.std.specs.Prelude.{ℕ, true, false, List, [], Some, None, Result, Ok, Err}
use Rattle.std.proofs.Common.{refl, ap, inl, inr}
use Rattle.lsm_disk.specs.declared.calls.DiskCall.{DiskCall}
use Rattle.lsm_disk.specs.declared.calls.DiskCall.TheVariants as disk
use Rattle.lsm_disk.specs.declared.dest.DestError.{DestError}
use Rattle.lsm_disk.specs.declared.dest.DestError.TheVariants as dest
use Rattle.lsm_model.specs.declared.states.State.{State}
use Rattle.lsm_model.specs.Destination.{BeginsFolder, FillsFolder, FinishesFolder, unfinished}
use Rattle.lsm_model.specs.Steps.{Made, Asked, Began, Filed, Appended, Sealed, Finished, Closed_file, Closed_tables, Makes}
use Rattle.lsm_model.specs.Runs.{core, Moves, Same, Founded, Changed, added}
use Rattle.lsm_model.proofs.Cores.{moved, becomes_same, halts_same}
use Rattle.lsm_model.proofs.CrashLemmas.{no_folder}

pub begin_moves : (s t : State) (dir : List ℕ) (result : Result (Unit {0}) DestError) → BeginsFolder s dir result t → Moves (core s) (core t) []
begin_moves s t dir (Ok done) h = Founded (unfinished dir) (Some dir) refl (no_folder dir s h.1) refl (inr refl) (becomes_same h.2)
begin_moves s t dir (Err dest.Fault) h = elim h.1 [
  | inl f ↦ Same refl (halts_same f)
  | inr f ↦ Founded (unfinished dir) s.begun refl (no_folder dir s f.0) refl (inl refl) (halts_same f.1)
]
begin_moves s t dir (Err (dest.Halted first)) h = Same refl (ap core h.1)
begin_moves s t dir (Err dest.Exists) h = Same refl (becomes_same h.2)
begin_moves s t dir (Err (dest.Changed call path)) h = absurd h
begin_moves s t dir (Err dest.NoMemory) h = Same refl (becomes_same h.1)

pub fill_moves : (s t : State) (call : DiskCall) (result : Result (Unit {0}) DestError) → FillsFolder call s result t → Moves (core s) (core t) []
fill_moves s t call (Ok done) h = Same refl (becomes_same h.1)
fill_moves s t call (Err dest.Fault) h = Same refl (halts_same h.1)
fill_moves s t call (Err (dest.Halted first)) h = Same refl (ap core h.1)
fill_moves s t call (Err dest.Exists) h = absurd h
fill_moves s t call (Err (dest.Changed at path)) h = absurd h
fill_moves s t call (Err dest.NoMemory) h = Same refl (becomes_same h.1)

pub finish_moves : (s t : State) (result : Result (Unit {0}) DestError) → FinishesFolder s result t → Moves (core s) (core t) []
finish_moves s t (Ok done) h =
    Changed (record { name = h.1.dir; reading = h.1.reading; sure = true }) None refl h.1.begun (inr refl) (becomes_same h.1.rest)
finish_moves s t (Err dest.Fault) h = elim h.1.halts [
  | inl f ↦ Same refl (halts_same f)
  | inr f ↦ Changed (record { name = h.1.dir; reading = h.1.reading; sure = false }) s.begun refl h.1.begun (inl (refl, refl)) (halts_same f)
]
finish_moves s t (Err (dest.Halted first)) h = Same refl (ap core h.1)
finish_moves s t (Err dest.Exists) h = absurd h
finish_moves s t (Err (dest.Changed call path)) h = absurd h
finish_moves s t (Err dest.NoMemory) h = Same refl (becomes_same h.1)

-- every call moves the core by its batch, and else as `Moves` says
pub moves : (s t : State) (made : Made) → Makes s made t → Moves (core s) (core t) (added made)
moves s t (Asked e r) h = moved s t e r h
moves s t (Began dir result) h = begin_moves s t dir result h
moves s t (Filed name result) h = fill_moves s t disk.Create result h
moves s t (Appended bytes result) h = fill_moves s t disk.Append result h
moves s t (Sealed result) h = fill_moves s t disk.Sync result h
moves s t (Finished current result) h = finish_moves s t result h
moves s t Closed_file h = Same refl (becomes_same h)
moves s t Closed_tables h = Same refl (becomes_same h)
