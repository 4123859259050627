-- The parts of a step of a flush, each of which leaves a good store.
use Rattle.std.specs.Prelude.{◌≡◌, ◌≢◌, ℕ, ◌+◌, ◌^◌, ◌<◌, ◌≤◌, Bool, true, false, List, [], ◌∷◌, length, Some, None}
use Rattle.std.specs.FinMap as finmap
use Rattle.lsm_io.specs.Causes.{Rose}
use Rattle.lsm_rows.specs.declared.rows.Row.{Row}
use Rattle.lsm_disk.specs.Images.{Tree}
use Rattle.lsm_disk.specs.Halts.{halt_at}
use Rattle.lsm_disk.specs.declared.calls.Halt.{Halt}
use Rattle.lsm_disk.specs.declared.calls.DiskCall.{DiskCall}
use Rattle.lsm_disk.specs.declared.calls.DiskCall.TheVariants as call
use Rattle.lsm_table.specs.WholeTables.{IsTable}
use Rattle.lsm_disk.specs.State.{state_of}
use Rattle.lsm_version.specs.declared.edits.Edit.{Edit}
use Rattle.lsm_version.specs.declared.tables.TableInfo.{TableInfo}
use Rattle.lsm_version.specs.Edits.{IsEdit, IsFileNumber, IsTable as IsSaid}
use Rattle.lsm_version.specs.Levels.{Tables}
use Rattle.lsm_core.specs.Catalogs.{HasTableMore}
use Rattle.lsm_model.specs.declared.errors.StoreError.{StoreError}
use Rattle.lsm_model.specs.declared.errors.StoreError.TheVariants as error
use Rattle.lsm_model.specs.declared.replies.Flushed.{Flushed}
use Rattle.lsm_model.specs.declared.replies.Flushed.TheVariants as flush
use Rattle.lsm_model.specs.declared.states.State.{State}
use Rattle.lsm_model.specs.Causes.{number_end, table_limit}
use Rattle.lsm_model.specs.Halting.{IsMet, table_calls}
use Rattle.lsm_model.specs.Moves.{Draws}
use Rattle.lsm_refine.specs.Kept.{Kept, Shown}
use Rattle.lsm_refine.specs.Good.{Good}
use Rattle.lsm_refine.specs.Flushed.{AreFlushed, HasKeys, HasFlushTable, EndsFrozen, flush_edit, flushed_state}
use Rattle.lsm_refine.specs.Grown.{halted_state}
use Rattle.lsm_refine.specs.Moments.{ReadsAsCrashed, ImagesShow}
use Rattle.lsm_refine.specs.Refused.{CountsHold}
use Rattle.lsm_refine.specs.Caused.{HasDrawn, HasFlushed, edit_draws, flush_number, flush_table}

-- The rows are still frozen. Their table may have come further, and so many numbers were drawn at most.
pub record GoesOn (k : ℕ) (old new : Kept) : Type 0 where
  pub rest : new ≡ record old { flushing = new.flushing; unfinished = new.unfinished; known = new.known; next = new.next }
  pub taken : old.flushing.taken ≤ new.flushing.taken
  pub table : (number : ℕ) → old.flushing.table ≡ Some number → new.flushing.table ≡ Some number
  pub drawn : HasDrawn k old new

-- The store is good for a state that at most so many numbers were drawn from, and what a crash leaves of it one may leave of the
-- earlier state.
pub record ComesTo (k : ℕ) (s : State) (w : Shown) : Type 0 where
  pub now : State
  pub draws : Draws k s now
  pub good : Good w now
  pub crashed : (t : Tree) → ReadsAsCrashed now t → ReadsAsCrashed s t

-- A part went on, or was refused so that it may be asked again: nothing halts the store. For whichever state it was good, it is
-- good behind the part, and each image on the way reads as a crash leaves that state.
pub record Came (k : ℕ) (v w : Shown) : Type 0 where
  pub unhalted : w.halt ≡ None
  pub counts : CountsHold v w
  pub on : GoesOn k v.kept w.kept
  pub good : (s : State) → Good v s → ComesTo k s w
  pub images : (s : State) (good : Good v s) → ImagesShow good.story w.disk.told s s

-- the store is good for what a failed call halted
pub record HaltsAt (k : ℕ) (at : Halt) (s : State) (w : Shown) : Type 0 where
  pub now : State
  pub draws : Draws k s now
  pub faults : now.faults ≤ w.disk.faults
  pub refusals : now.refusals ≤ w.disk.refusals
  pub good : Good w (halted_state w.disk at now.doubtful now)

-- A disk call of the part failed, and halts the store.
pub record Fails (k : ℕ) (v w : Shown) : Type 0 where
  pub at : Halt
  pub halt : w.halt ≡ Some at
  pub met : IsMet v.dir at table_calls
  pub rose : Rose v.disk.faults w.disk.faults
  pub counts : CountsHold v w
  pub on : GoesOn k v.kept w.kept
  pub good : (s : State) → Good v s → HaltsAt k at s w
  pub images : (s : State) (good : Good v s) → ImagesShow good.story w.disk.told s s

-- A disk call of the part found the disk changed, and halts the store. Under a good store it doesn't.
pub record FindsChanged (k : ℕ) (made : DiskCall) (path : List ℕ) (v w : Shown) : Type 0 where
  pub halt : w.halt ≡ Some (halt_at made path)
  pub met : IsMet v.dir (halt_at made path) table_calls
  pub other : made ≢ call.RemoveFolder
  pub rose : Rose v.disk.refusals w.disk.refusals
  pub counts : CountsHold v w
  pub on : GoesOn k v.kept w.kept
  pub never : (s : State) → Good v s → ⊥

-- why a part is refused, and what it leaves
unfoldable pub Refuses : ℕ → StoreError → Shown → Shown → Type 0
Refuses k error.NoMemory v w = Came k v w
Refuses k (error.NumbersFull next) v w =
    Came k v w × (next ≡ w.kept.next) × (number_end ≤ next) × (next < v.kept.next + k)
Refuses k (error.TablesFull live adding) v w =
    Came k v w × (live ≡ finmap.len v.kept.version) × (adding ≡ 1) × (table_limit < live + adding)
Refuses k error.DiskFault v w = Fails k v w
Refuses k (error.Changed made path) v w = FindsChanged k made path v w
Refuses k other v w = ⊥

-- ---- the table under way

-- the flush's table has its number, for which the next one was drawn unless it had one
pub record HasNumber (old new : Kept) : Type 0 where
  pub table : new.flushing.table ≡ Some (flush_table old)
  pub next : new.next ≡ old.next + flush_number old.flushing

-- some of the rows more are in the table's file, and not all of them
pub record HasWrittenMore (old new : Kept) : Type 0 where
  pub goes_on : old.flushing.taken < new.flushing.taken
  pub within : new.flushing.taken < length new.frozen

-- The file of the table under way was given the whole table of the frozen rows, of which an edit may say this. The table's
-- number is no live table's.
pub record HasWhole (kept : Kept) (info : TableInfo) : Type 0 where
  pub rows : List Row
  pub bytes : List ℕ
  pub picked : AreFlushed kept.frozen rows
  pub keys : HasKeys info rows
  pub table : IsTable bytes rows info.number info.session
  pub size : length bytes ≡ info.size
  pub given : kept.unfinished ≡ record { number = info.number; bytes = bytes } ∷ []
  pub begun : kept.flushing.table ≡ Some info.number
  pub numbered : IsFileNumber info.number
  pub said : IsSaid info
  pub fresh : finmap.get kept.version info.number ≡ None

-- ---- the table is installed

-- Rows are frozen. Their table is there for good, under a number that no live table has, and an edit may say this of it.
pub record IsSealed (v : Shown) (info : TableInfo) : Type 0 where
  pub rows : List Row
  pub some : 1 ≤ length v.kept.frozen
  pub numbered : IsFileNumber info.number
  pub said : IsSaid info
  pub fresh : finmap.get v.kept.version info.number ≡ None
  pub begun : v.kept.flushing.table ≡ Some info.number
  pub is : (s : State) (good : Good v s) → HasFlushTable (state_of good.story) v.dir v.kept info rows

-- The version is that of before with the sealed table, and there is room for it. The last log and the greatest sequence of the
-- frozen rows are those that an edit names.
pub record AddsFlush (v : Shown) (info : TableInfo) (log last : ℕ) (version : Tables) : Type 0 where
  pub sealed : IsSealed v info
  pub more : HasTableMore v.kept.version info version
  pub few : finmap.len version ≤ table_limit
  pub ends : EndsFrozen v.kept log last

-- the version is that of before with some sealed table, and the greatest sequence is in range
pub record AddsTable (v : Shown) (last : ℕ) (version : Tables) : Type 0 where
  pub info : TableInfo
  pub log : ℕ
  pub small : last < 2 ^ 56
  pub adds : AddsFlush v info log last version

-- the edit names this table, and is in the grammar
pub record IsFlushEdit (info : TableInfo) (log last : ℕ) (edit : Edit) : Type 0 where
  pub next : ℕ
  pub is : edit ≡ flush_edit info log next last
  pub grammar : IsEdit (flush_edit info log next last)

-- the edit names the table of the frozen rows and makes this version
pub record InstallsBy (v : Shown) (last : ℕ) (edit : Edit) (version : Tables) : Type 0 where
  pub info : TableInfo
  pub log : ℕ
  pub adds : AddsFlush v info log last version
  pub edit_is : IsFlushEdit info log last edit

-- The store is good for a state that at most so many numbers were drawn from, with its frozen batches in a table.
pub record ComesInstalled (k : ℕ) (s : State) (v w : Shown) : Type 0 where
  pub now : State
  pub draws : Draws k s now
  pub faults : now.faults ≤ w.disk.faults
  pub refusals : now.refusals ≤ w.disk.refusals
  pub many : finmap.len w.kept.version ≡ finmap.len v.kept.version + 1
  pub good : Good w (flushed_state w.disk w.kept.version w.kept.manifest_len now)

-- The part installed the table. For whichever state the store was good, it is good behind the part, and each image on the way
-- reads as a crash leaves that state.
pub record HasInstalled (k : ℕ) (v w : Shown) : Type 0 where
  pub unhalted : w.halt ≡ None
  pub counts : CountsHold v w
  pub kept : HasFlushed v.kept w.kept
  pub good : (s : State) → Good v s → ComesInstalled k s v w
  pub images : (s : State) (good : Good v s) → ImagesShow good.story w.disk.told s s

-- what the part of a step did that comes behind the table's beginning
abbrev pub FlushesOn : Shown → Shown → Flushed → Type 0
FlushesOn v w flush.NoJob = ⊥
FlushesOn v w flush.More = Came 0 v w × HasWrittenMore v.kept w.kept
FlushesOn v w flush.Installed = HasInstalled (edit_draws v.kept) v w

-- How many of the two files of a new manifest are there before a disk call that may want memory, by the call and by whether it is
-- one on the manifest: none before the manifest is made, else the manifest, and both once the temporary file is made.
abbrev pub made_at : DiskCall → Bool → ℕ
made_at call.Create true = 0
made_at call.Create false = 1
made_at call.Append true = 1
made_at other here = 2
