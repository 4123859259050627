-- What each answer of a store's call says of what the store keeps and of its disk's counts, on every disk, also on one that
-- tells nothing of its bytes. Beside it a step of the abstract store says what the call means.
use Rattle.std.specs.Prelude.{◌≡◌, ◌≢◌, ◌⊎◌, ◌↔◌, ℕ, ◌+◌, ◌-◌, ◌%◌, ◌<◌, ◌≤◌, Bool, true, false, ◌==◌, nat_le, is_some, if◌then◌else◌, List, [], ◌∷◌, ◌++◌, map, take, drop, length, sum_by, All, Contains, Option, Some, None, Result, Ok, Err}
use Rattle.std.specs.List.Sorted.{IsPermutation}
use Rattle.std.specs.FinMap as finmap
use Rattle.lsm_io.specs.Causes.{Rose}
use Rattle.lsm_names.specs.declared.file_names.FileName.{FileName}
use Rattle.lsm_names.specs.declared.file_names.FileName.TheVariants.{Log, Table}
use Rattle.lsm_rows.specs.declared.operations.Op.{Op}
use Rattle.lsm_rows.specs.declared.rows.Row.{Row}
use Rattle.lsm_rows.specs.Rows.{batch_rows}
use Rattle.lsm_rows.specs.BatchText.{batch_text}
use Rattle.lsm_frame.specs.Frames.{record_text}
use Rattle.lsm_disk.specs.State.{Story, state_of}
use Rattle.lsm_disk.specs.Dest.{path_in}
use Rattle.lsm_disk.specs.declared.calls.DiskCall.{DiskCall}
use Rattle.lsm_disk.specs.declared.calls.DiskCall.TheVariants as call
use Rattle.lsm_version.specs.declared.tables.Place.{Place}
use Rattle.lsm_version.specs.declared.tables.Placed.{Placed}
use Rattle.lsm_version.specs.Levels.{Tables}
use Rattle.lsm_model.specs.declared.errors.StoreError.{StoreError}
use Rattle.lsm_model.specs.declared.errors.StoreError.TheVariants as error
use Rattle.lsm_model.specs.declared.cuts.Cut.{Cut}
use Rattle.lsm_model.specs.declared.cuts.LiveFiles.{LiveFiles}
use Rattle.lsm_model.specs.declared.cuts.FlushRule.{FlushRule}
use Rattle.lsm_model.specs.declared.cuts.FlushRule.TheVariants.{Never, Always, AtLeast}
use Rattle.lsm_model.specs.declared.events.Which.{Which}
use Rattle.lsm_model.specs.declared.events.Which.TheVariants.{Shape, All as Everything}
use Rattle.lsm_model.specs.declared.replies.Flushed.{Flushed}
use Rattle.lsm_model.specs.declared.replies.Flushed.TheVariants as flush
use Rattle.lsm_model.specs.declared.replies.Begun.{Begun}
use Rattle.lsm_model.specs.declared.replies.Begun.TheVariants as begun
use Rattle.lsm_model.specs.declared.replies.Stepped.{Stepped}
use Rattle.lsm_model.specs.declared.replies.Stepped.TheVariants as merge
use Rattle.lsm_model.specs.declared.replies.Deleted.{Deleted}
use Rattle.lsm_model.specs.declared.replies.Deleted.TheVariants as delete
use Rattle.lsm_model.specs.declared.replies.JobStart.{JobStart}
use Rattle.lsm_model.specs.declared.events.Event.{Event}
use Rattle.lsm_model.specs.declared.events.Event.TheVariants as event
use Rattle.lsm_model.specs.declared.replies.Reply.{Reply}
use Rattle.lsm_model.specs.Causes.{last_sequence, number_end, table_limit, pin_limit, disable_limit}
use Rattle.lsm_model.specs.Reads.{freeze_size}
use Rattle.lsm_model.specs.Upkeep.{is_empty}
use Rattle.lsm_model.specs.Halting.{Aimed, The_path, write_calls, sync_calls, freeze_calls, table_calls, flush_calls, clear_calls, copy_calls, end_calls}
use Rattle.lsm_model.specs.Checkpoints.{size_rule}
use Rattle.lsm_model.specs.Pins.{listed, flush_rule}
use Rattle.lsm_model.specs.Steps as answer_of
use Rattle.lsm_model.specs.Steps.{Given}
use Rattle.lsm_version.specs.declared.choices.Choice.{Choice}
use Rattle.lsm_version.specs.Orders.{places_of}
use Rattle.lsm_pick.specs.Picked.{picked}
use Rattle.lsm_refine.specs.Kept.{Job, KeptPin, Flushing, Kept, Shown}
use Rattle.lsm_refine.specs.Listing.{files_listed, ListsLive}
use Rattle.lsm_refine.specs.New.{number_in}
use Rattle.lsm_refine.specs.Obsolete.{IsObsolete, IsNextObsolete, HasAlso, HasWithout, unfinished_names}
use Rattle.lsm_refine.specs.Refused.{CountsHold, KeepsAllBut, WasHalted, ChangeRefused, TablesRefused, IsReadCall, FilesRefused, FolderRefused, OneFileRefused}

-- nothing halts the store, before the call or behind it
abbrev pub IsOpen : Shown → Shown → Type 0
IsOpen v w = (v.halt ≡ None) × (w.halt ≡ None)

-- ---- writes

-- the bytes that a batch adds to the last log, where this has so many
abbrev pub logged_len : ℕ → ℕ → List Op → ℕ
logged_len log_len first ops = length (record_text (log_len % 32768) (batch_text first ops))

-- The batch's rows are in memory, its record is in the last log, and the sequence goes on by its operations.
pub record HasGrown (ops : List Op) (old new : Kept) : Type 0 where
  pub rest : new ≡ record old {
    sequence = old.sequence + length ops;
    active = new.active;
    log_len = old.log_len + logged_len old.log_len (old.sequence + 1) ops;
  }
  pub within : new.sequence ≤ last_sequence
  pub rows : IsPermutation (old.active ++ batch_rows (old.sequence + 1) ops) new.active

-- A write. A refused one leaves what is kept.
abbrev pub WroteBy : List Op → Shown → Shown → Result ℕ StoreError → Type 0
WroteBy ops v w (Ok last) = IsOpen v w × (last ≡ w.kept.sequence) × HasGrown ops v.kept w.kept
WroteBy ops v w (Err (error.SequenceFull last count)) =
    (v.halt ≡ None) × (last ≡ v.kept.sequence) × (count ≡ length ops) × (last_sequence < last + count) × (w ≡ v)
WroteBy ops v w (Err other) = ChangeRefused write_calls v w other × (w.kept ≡ v.kept)

-- A sync of the log. It takes no memory.
abbrev pub SyncedBy : {T : Type 0} → Shown → Shown → Result T StoreError → Type 0
SyncedBy v w (Ok done) = IsOpen v w × (w.kept ≡ v.kept)
SyncedBy v w (Err error.NoMemory) = ⊥
SyncedBy v w (Err other) = ChangeRefused sync_calls v w other × (w.kept ≡ v.kept)

-- ---- readings of the contents

-- a reading of live tables loses no view but the one that failed, which is closed
abbrev pub ReadBy : {T : Type 0} → Shown → Shown → Result T StoreError → Type 0
ReadBy v w (Ok value) = KeepsAllBut None v w
ReadBy v w (Err refusal) = TablesRefused v w refusal × ((lost : Option ℕ) × KeepsAllBut lost v w)

abbrev pub value_size : Option (List ℕ) → ℕ
value_size None = 0
value_size (Some value) = length value

-- what a row counts in memory: the bytes of its key and of its value, and 8
abbrev pub row_size : Row → ℕ
row_size row = length row.key + value_size row.value + 8

abbrev pub ToldLast : Shown → Shown → ℕ → Type 0
ToldLast v w last = (last ≡ v.kept.sequence) × (w ≡ v)

abbrev pub ToldWantsFreeze : Shown → Shown → Bool → Type 0
ToldWantsFreeze v w wants = (wants ≡ nat_le freeze_size (sum_by row_size v.kept.active)) × (w ≡ v)

-- ---- freezing

-- there are active rows, and none are frozen
abbrev pub CanFreeze : Kept → Type 0
CanFreeze kept = (kept.active ≢ []) × (kept.frozen ≡ [])

-- The active rows are frozen. A new, empty log has the next number, which alone is drawn.
pub record HasFrozen (old new : Kept) : Type 0 where
  pub can : CanFreeze old
  pub number : old.next < number_end
  pub rest : new ≡ record old {
    active = [];
    frozen = old.active;
    logs = old.logs ++ old.next ∷ [];
    log_len = 0;
    older_len = old.log_len;
    next = old.next + 1;
    known = new.known;
  }
  pub known : HasAlso (Log old.next) old.known new.known

-- Where a disk call failed on the way the rows are still active. The number of the new log may be drawn.
pub record StaysActive (old new : Kept) : Type 0 where
  pub can : CanFreeze old
  pub rest : new ≡ record old { next = new.next; known = new.known }
  pub later : old.next ≤ new.next
  pub few : new.next ≤ old.next + 1

abbrev pub FrozeBy : Shown → Shown → Result Bool StoreError → Type 0
FrozeBy v w (Ok true) = IsOpen v w × HasFrozen v.kept w.kept
FrozeBy v w (Ok false) = (v.halt ≡ None) × ((v.kept.active ≡ []) ⊎ (v.kept.frozen ≢ [])) × (w ≡ v)
FrozeBy v w (Err (error.NumbersFull next)) =
    (v.halt ≡ None) × CanFreeze v.kept × (next ≡ v.kept.next) × (number_end ≤ next) × (w ≡ v)
FrozeBy v w (Err error.NoMemory) = IsOpen v w × CanFreeze v.kept × (w.kept ≡ v.kept)
FrozeBy v w (Err (error.Halted first)) = WasHalted first v w
FrozeBy v w (Err other) = ChangeRefused freeze_calls v w other × StaysActive v.kept w.kept

-- ---- numbers and edits

-- a file that was made: a table, or one whose number was drawn in the call
pub record IsMade (old new : Kept) (name : FileName) : Type 0 where
  pub drawn : number_in name < new.next
  pub since : (old.next ≤ number_in name) ⊎ ((number : ℕ) × (name ≡ Table number))

-- Numbers were drawn, so many at most, each one that there is, and files may have been made. No name is forgotten.
pub record HasDrawn (most : ℕ) (old new : Kept) : Type 0 where
  pub later : old.next ≤ new.next
  pub few : new.next ≤ old.next + most
  pub numbers : (new.next ≡ old.next) ⊎ (new.next ≤ number_end)
  pub still : (name : FileName) → Contains old.known name → Contains new.known name
  pub made : (name : FileName) → Contains new.known name → Contains old.known name ⊎ IsMade old new name

-- from so many bytes on the next edit makes a new manifest
abbrev pub roll_size : ℕ
roll_size = 1048576

-- whether the next edit makes a new manifest
abbrev pub rolls : Kept → Bool
rolls kept = nat_le roll_size kept.manifest_len

-- how many numbers an edit draws
abbrev pub edit_draws : Kept → ℕ
edit_draws kept = if rolls kept then 1 else 0

-- The edit of the new version stands behind the manifest's other edits; or, where the manifest has its size, in a new one,
-- which has the last number that was drawn.
pub record HasEdited (old new : Kept) : Type 0 where
  pub rolled : rolls old ≡ true → new.manifest + 1 ≡ new.next
  pub longer : rolls old ≡ false → (new.manifest ≡ old.manifest) × (old.manifest_len < new.manifest_len)

-- ---- steps of a flush

-- how many numbers a flush draws for its table: one, where it has none yet
abbrev pub flush_number : Flushing → ℕ
flush_number job = if is_some job.table then 0 else 1

abbrev pub number_or : ℕ → Option ℕ → ℕ
number_or next None = next
number_or next (Some number) = number

-- the number of a flush's table: the one that it has, or the next one
abbrev pub flush_table : Kept → ℕ
flush_table kept = number_or kept.next kept.flushing.table

-- Some of the frozen rows more were taken, and not all of them.
pub record HasFlushedOn (old new : Kept) : Type 0 where
  pub rows : old.frozen ≢ []
  pub rest : new ≡ record old { flushing = new.flushing; unfinished = new.unfinished; known = new.known; next = new.next }
  pub goes_on : old.flushing.taken < new.flushing.taken
  pub within : new.flushing.taken < length old.frozen
  pub table : new.flushing.table ≡ Some (flush_table old)
  pub next : new.next ≡ old.next + flush_number old.flushing
  pub drawn : HasDrawn 1 old new

-- The frozen rows are in a live table of level 0, up to their last sequence, and no log but the last one is live any more.
pub record HasFlushed (old new : Kept) : Type 0 where
  pub rows : old.frozen ≢ []
  pub table : Placed
  pub level : table.level ≡ 0
  pub version : new.version ≡ finmap.insert old.version (flush_table old) table
  pub few : finmap.len new.version ≤ table_limit
  pub edit : HasEdited old new
  pub next : new.next ≡ old.next + flush_number old.flushing + edit_draws old
  pub drawn : HasDrawn 2 old new
  pub rest : new ≡ record old {
    version = new.version;
    views = new.views;
    log = new.log;
    last = new.last;
    frozen = [];
    logs = new.log ∷ [];
    older_len = 0;
    flushing = record { taken = 0; table = None };
    unfinished = new.unfinished;
    manifest = new.manifest;
    manifest_len = new.manifest_len;
    next = new.next;
    known = new.known;
  }
  pub older : List ℕ
  pub logs : old.logs ≡ older ++ new.log ∷ []
  pub last_among : (row : Row) × Contains old.frozen row × (row.sequence ≡ new.last)
  pub last_of : All (λ (row : Row). row.sequence ≤ new.last) old.frozen
  pub ended : ¬ Contains (unfinished_names new) (Table (flush_table old))

-- The rows are still frozen, and the step may be asked again. A table keeps its number.
pub record StaysFrozen (old new : Kept) : Type 0 where
  pub rows : old.frozen ≢ []
  pub rest : new ≡ record old { flushing = new.flushing; unfinished = new.unfinished; known = new.known; next = new.next }
  pub taken : old.flushing.taken ≤ new.flushing.taken
  pub table : (number : ℕ) → old.flushing.table ≡ Some number → new.flushing.table ≡ Some number
  pub drawn : HasDrawn (flush_number old.flushing + edit_draws old) old new

abbrev pub FlushedBy : Shown → Shown → Result Flushed StoreError → Type 0
FlushedBy v w (Ok flush.NoJob) = (v.halt ≡ None) × (v.kept.frozen ≡ []) × (w ≡ v)
FlushedBy v w (Ok flush.More) = IsOpen v w × HasFlushedOn v.kept w.kept
FlushedBy v w (Ok flush.Installed) = IsOpen v w × HasFlushed v.kept w.kept
FlushedBy v w (Err (error.NumbersFull next)) = IsOpen v w × (next ≡ w.kept.next) × (number_end ≤ next)
    × (next < v.kept.next + (flush_number v.kept.flushing + edit_draws v.kept)) × StaysFrozen v.kept w.kept
FlushedBy v w (Err (error.TablesFull live adding)) = IsOpen v w × (live ≡ finmap.len v.kept.version) × (adding ≡ 1)
    × (table_limit < live + adding) × StaysFrozen v.kept w.kept
FlushedBy v w (Err error.NoMemory) = IsOpen v w × StaysFrozen v.kept w.kept
FlushedBy v w (Err (error.Halted first)) = WasHalted first v w
FlushedBy v w (Err other) = ChangeRefused table_calls v w other × StaysFrozen v.kept w.kept

-- ---- compactions

-- what a compaction takes: by the shape of the levels, or all tables, which go to the last level
abbrev pub choice_by : Which → Tables → Option Choice
choice_by Shape tables = picked tables
choice_by Everything tables = if finmap.len tables == 0 then None else Some (record { inputs = places_of tables; output = 6 })

-- the store with other things kept, all else as it was
abbrev pub keeping : Kept → Shown → Shown
keeping kept v = record v { kept = kept }

-- the compaction is under way, and has merged nothing
abbrev pub with_choice : Choice → Kept → Kept
with_choice choice kept = record kept { merging = Some choice.inputs; merge_level = choice.output; outputs = 0; merged = 0 }

-- No disk call is made.
abbrev pub BegunBy : Which → Shown → Shown → Result Begun StoreError → Type 0
BegunBy which v w (Ok (begun.UnderWay inputs)) = (v.halt ≡ None) × (v.kept.merging ≡ Some inputs) × (w ≡ v)
BegunBy which v w (Ok begun.Nothing) =
    (v.halt ≡ None) × (v.kept.merging ≡ None) × (choice_by which v.kept.version ≡ None) × (w ≡ v)
BegunBy which v w (Ok begun.Started) = (v.halt ≡ None) × (v.kept.merging ≡ None)
    × ((choice : Choice) × (choice_by which v.kept.version ≡ Some choice) × (w ≡ keeping (with_choice choice v.kept) v))
BegunBy which v w (Err error.NoMemory) = (v.halt ≡ None) × (w ≡ v)
BegunBy which v w (Err (error.Halted first)) = WasHalted first v w
BegunBy which v w (Err other) = ⊥

-- Rows of the inputs were merged, so many at most, and outputs begun, each of which has drawn a number.
pub record HasMerged (rows draws : ℕ) (old new : Kept) : Type 0 where
  pub taken : old.merged ≤ new.merged
  pub within : new.merged ≤ old.merged + rows
  pub outputs : old.outputs ≤ new.outputs
  pub began : new.outputs ≤ old.outputs + rows
  pub each : new.outputs + old.next ≤ old.outputs + new.next
  pub drawn : HasDrawn draws old new
  pub rest : new ≡ record old {
    merged = new.merged;
    outputs = new.outputs;
    next = new.next;
    unfinished = new.unfinished;
    known = new.known;
    views = new.views;
  }

-- no number was drawn but one for each output that was begun
abbrev pub DrewForOutputs : Kept → Kept → Type 0
DrewForOutputs old new = new.next + old.outputs ≡ old.next + new.outputs

-- the tables of a version but those at these places
abbrev pub without_places : List Place → Tables → Tables
without_places [] tables = tables
without_places (place ∷ places) tables = without_places places (finmap.remove tables place.number)

-- All tables of the one version stand in the other, which has so many more at most, all of them at this level.
pub record HasOnlyAdded (level most : ℕ) (old new : Tables) : Type 0 where
  pub still : (number : ℕ) (placed : Placed) → finmap.get old number ≡ Some placed → finmap.get new number ≡ Some placed
  pub others : (number : ℕ) (placed : Placed) → finmap.get new number ≡ Some placed
      → (finmap.get old number ≡ Some placed) ⊎ (placed.level ≡ level)
  pub few : finmap.len new ≤ finmap.len old + most

-- no table is being written but that of a flush
abbrev pub WritesForFlush : Kept → Type 0
WritesForFlush kept = (number : ℕ) → Contains (unfinished_names kept) (Table number) → kept.flushing.table ≡ Some number

-- The rest of the rows was merged, and the outputs are live in the place of the inputs, at the level of the compaction.
pub record HasInstalled (rows : ℕ) (inputs : List Place) (old new : Kept) : Type 0 where
  pub mid : Kept
  pub merged : HasMerged rows rows old mid
  pub drew : DrewForOutputs old mid
  pub tables : HasOnlyAdded old.merge_level mid.outputs (without_places inputs old.version) new.version
  pub few : finmap.len new.version ≤ table_limit
  pub edit : HasEdited mid new
  pub next : new.next ≡ mid.next + edit_draws old
  pub drawn : HasDrawn 1 mid new
  pub rest : new ≡ record mid {
    version = new.version;
    views = new.views;
    merging = None;
    outputs = 0;
    merged = 0;
    unfinished = new.unfinished;
    manifest = new.manifest;
    manifest_len = new.manifest_len;
    next = new.next;
    known = new.known;
  }
  pub ended : WritesForFlush new

-- The compaction is given up, some rows having been merged; what it wrote is obsolete.
pub record HasGivenUp (rows : ℕ) (old new : Kept) : Type 0 where
  pub mid : Kept
  pub merged : HasMerged rows rows old mid
  pub rest : new ≡ record mid { merging = None; outputs = 0; merged = 0; unfinished = new.unfinished; views = new.views }
  pub ended : WritesForFlush new

-- with these outputs, of which the compaction has begun so many at least, there would be too many tables
pub record LacksRoom (rows live adding : ℕ) (old new : Kept) : Type 0 where
  pub inputs : List Place
  pub are : old.merging ≡ Some inputs
  pub live_is : live + length inputs ≡ finmap.len old.version
  pub full : table_limit < live + adding
  pub given_up : HasGivenUp rows old new
  pub outputs : adding ≤ given_up.mid.outputs

-- how many numbers a step draws at most that merges so many rows: one for each row's output, and that of a manifest
abbrev pub merge_number : ℕ → Kept → ℕ
merge_number rows kept = rows + edit_draws kept

-- a step of a compaction that is refused, but where it is given up: rows may have been merged, and the step may be asked again
abbrev pub MergedSome : ℕ → Kept → Kept → Type 0
MergedSome rows old new = (old.merging ≢ None) × HasMerged rows (merge_number rows old) old new

-- a changing disk call refused it; or a reading did, and gave it up
abbrev pub MergeRefused : ℕ → Shown → Shown → StoreError → Type 0
MergeRefused rows v w refusal = (ChangeRefused table_calls v w refusal × MergedSome rows v.kept w.kept)
    ⊎ (IsOpen v w × TablesRefused v w refusal × (v.kept.merging ≢ None) × HasGivenUp rows v.kept w.kept)

abbrev pub MergedBy : ℕ → Shown → Shown → Result Stepped StoreError → Type 0
MergedBy rows v w (Ok merge.NoJob) = (v.halt ≡ None) × (v.kept.merging ≡ None) × (w ≡ v)
MergedBy rows v w (Ok merge.More) = IsOpen v w × (v.kept.merging ≢ None) × (v.kept.merged < w.kept.merged)
    × HasMerged rows rows v.kept w.kept × DrewForOutputs v.kept w.kept
MergedBy rows v w (Ok merge.Installed) = IsOpen v w
    × ((inputs : List Place) × (v.kept.merging ≡ Some inputs) × HasInstalled rows inputs v.kept w.kept)
MergedBy rows v w (Err (error.NumbersFull next)) = IsOpen v w × (next ≡ w.kept.next) × (number_end ≤ next)
    × (next < v.kept.next + merge_number rows v.kept) × MergedSome rows v.kept w.kept
MergedBy rows v w (Err (error.TablesFull live adding)) = IsOpen v w × LacksRoom rows live adding v.kept w.kept
MergedBy rows v w (Err error.NoMemory) = IsOpen v w × MergedSome rows v.kept w.kept
MergedBy rows v w (Err (error.Halted first)) = WasHalted first v w
MergedBy rows v w (Err other) = MergeRefused rows v w other

-- ---- removing files

-- the disk call that removes a file
abbrev pub unlink_call : Shown → FileName → List Aimed
unlink_call v name = (call.Unlink, The_path (path_in v.dir name)) ∷ []

-- One obsolete file goes, the first one; there is nothing to remove exactly where no name is obsolete. It takes no memory, and
-- a file that isn't there is missing.
abbrev pub DeletedBy : Shown → Shown → Result Deleted StoreError → Type 0
DeletedBy v w (Ok (delete.Disabled count)) = (v.halt ≡ None) × (count ≡ v.kept.disables) × (count ≢ 0) × (w ≡ v)
DeletedBy v w (Ok (delete.Removed name)) = IsOpen v w × (v.kept.disables ≡ 0) × IsNextObsolete v.kept name
    × (w.kept ≡ record v.kept { known = w.kept.known }) × HasWithout name v.kept.known w.kept.known
DeletedBy v w (Ok delete.Nothing) =
    (v.halt ≡ None) × (v.kept.disables ≡ 0) × ((name : FileName) → ¬ IsObsolete v.kept name) × (w ≡ v)
DeletedBy v w (Err (error.Missing name)) = IsOpen v w × (v.kept.disables ≡ 0) × IsNextObsolete v.kept name
    × Rose v.disk.refusals w.disk.refusals × (w.kept ≡ v.kept)
DeletedBy v w (Err (error.Halted first)) = WasHalted first v w
DeletedBy v w (Err error.DiskFault) = (v.kept.disables ≡ 0) × (w.kept ≡ v.kept)
    × ((name : FileName) × IsNextObsolete v.kept name × ChangeRefused (unlink_call v name) v w error.DiskFault)
DeletedBy v w (Err other) = ⊥

-- ---- flushing by a rule

-- whether a rule has the rows in memory flushed: by `AtLeast` exactly where the live logs have so many bytes or more
abbrev pub flushes : FlushRule → Kept → Bool
flushes Never kept = false
flushes Always kept = true
flushes (AtLeast bytes) kept = nat_le bytes (kept.older_len + kept.log_len)

-- how many numbers are drawn at most for the rows in memory, where each edit may make a new manifest, and how many tables come
abbrev pub rows_draws : Kept → ℕ
rows_draws kept = (if is_empty kept.frozen then 0 else flush_number kept.flushing + 1) + (if is_empty kept.active then 0 else 3)

abbrev pub rows_tables : Kept → ℕ
rows_tables kept = (if is_empty kept.frozen then 0 else 1) + (if is_empty kept.active then 0 else 1)

-- these rows are there still, or they are in tables
abbrev pub StayOrWent : List Row → List Row → Type 0
StayOrWent old new = (new ≡ old) ⊎ (new ≡ [])

-- the active rows are still active, or, the frozen ones having gone first, were frozen and may be in a table
abbrev pub RowsMoved : Kept → Kept → Type 0
RowsMoved old new = ((new.active ≡ old.active) × StayOrWent old.frozen new.frozen)
    ⊎ ((new.active ≡ []) × StayOrWent old.active new.frozen)

-- Rows went from memory into tables of level 0, one for the frozen rows and one for the active ones at most. The pins stay.
pub record HasMoved (old new : Kept) : Type 0 where
  pub rest : new ≡ record old {
    version = new.version;
    views = new.views;
    log = new.log;
    last = new.last;
    active = new.active;
    frozen = new.frozen;
    logs = new.logs;
    log_len = new.log_len;
    older_len = new.older_len;
    flushing = new.flushing;
    unfinished = new.unfinished;
    manifest = new.manifest;
    manifest_len = new.manifest_len;
    next = new.next;
    known = new.known;
  }
  pub rows : RowsMoved old new
  pub drawn : HasDrawn (rows_draws old) old new
  pub tables : HasOnlyAdded 0 (rows_tables old) old.version new.version
  pub idle : old.active ≡ [] → old.frozen ≡ [] → new ≡ old

-- where the rule has rows flushed they may have gone into tables; else nothing is changed
abbrev pub MayHaveMoved : Bool → Kept → Kept → Type 0
MayHaveMoved true old new = HasMoved old new
MayHaveMoved false old new = new ≡ old

-- all rows went into tables, and the logs are empty
pub record HasMovedAll (old new : Kept) : Type 0 where
  pub moved : HasMoved old new
  pub active : new.active ≡ []
  pub frozen : new.frozen ≡ []
  pub log_len : new.log_len ≡ 0
  pub older_len : new.older_len ≡ 0

-- where the rule has rows flushed all of them are in tables; else nothing is changed
abbrev pub HasMovedBy : Bool → Kept → Kept → Type 0
HasMovedBy true old new = HasMovedAll old new
HasMovedBy false old new = new ≡ old

-- a disk call refused a flush by a rule
abbrev pub MoveFailed : FlushRule → Shown → Shown → StoreError → Type 0
MoveFailed rule v w refusal = (flushes rule v.kept ≡ true) × ChangeRefused flush_calls v w refusal × HasMoved v.kept w.kept

-- why a flush by a rule is refused
abbrev pub MoveRefused : FlushRule → Shown → Shown → StoreError → Type 0
MoveRefused rule v w (error.NumbersFull next) = IsOpen v w × (flushes rule v.kept ≡ true) × (next ≡ w.kept.next)
    × (number_end ≤ next) × (next < v.kept.next + rows_draws v.kept) × HasMoved v.kept w.kept
MoveRefused rule v w (error.TablesFull live adding) = IsOpen v w × (flushes rule v.kept ≡ true) × (live ≡ finmap.len w.kept.version)
    × (adding ≡ 1) × (table_limit < live + adding) × (live < finmap.len v.kept.version + rows_tables v.kept) × HasMoved v.kept w.kept
MoveRefused rule v w error.NoMemory = IsOpen v w × MayHaveMoved (flushes rule v.kept) v.kept w.kept
MoveRefused rule v w error.DiskFault = MoveFailed rule v w error.DiskFault
MoveRefused rule v w (error.Changed made path) = MoveFailed rule v w (error.Changed made path)
MoveRefused rule v w (error.Halted first) = WasHalted first v w
MoveRefused rule v w other = ⊥

-- ---- cuts

-- the pin of a cut of what is kept at its moment, with a checkpoint's work or none
abbrev pub pin_at : Kept → Option Job → KeptPin
pin_at kept job = record {
  number = kept.greatest_pin + 1;
  sequence = kept.sequence;
  manifest = kept.manifest;
  files = map listed (files_listed kept);
  job = job;
}

-- one more pin lives
abbrev pub with_new_pin : Kept → Option Job → Kept
with_new_pin kept job = record kept { pins = kept.pins ++ pin_at kept job ∷ []; greatest_pin = kept.greatest_pin + 1 }

-- A cut: the rows are flushed by its rule, and then the files that it lists are pinned.
pub record HasCut (rule : FlushRule) (v w : Shown) (cut : Cut) : Type 0 where
  pub room : length v.kept.pins < pin_limit
  pub at : Kept
  pub moved : HasMovedBy (flushes rule v.kept) v.kept at
  pub rest : w.kept ≡ with_new_pin at None
  pub pin : cut.pin ≡ w.kept.greatest_pin
  pub sequence : cut.sequence ≡ at.sequence
  pub lists : ListsLive at cut

-- as many pins live as may
abbrev pub PinsFull : Shown → Shown → ℕ → Type 0
PinsFull v w live = (v.halt ≡ None) × (live ≡ length v.kept.pins) × (pin_limit ≤ live) × (w ≡ v)

abbrev pub CutBy : FlushRule → Shown → Shown → Result Cut StoreError → Type 0
CutBy rule v w (Ok cut) = IsOpen v w × HasCut rule v w cut
CutBy rule v w (Err (error.PinsFull live)) = PinsFull v w live
CutBy rule v w (Err other) = MoveRefused rule v w other

-- what a cut would list
pub record HasListed (rule : FlushRule) (v w : Shown) (live : LiveFiles) : Type 0 where
  pub moved : HasMovedBy (flushes rule v.kept) v.kept w.kept
  pub sequence : live.sequence ≡ w.kept.sequence
  pub manifest : live.manifest ≡ w.kept.manifest
  pub manifest_len : live.manifest_len ≡ w.kept.manifest_len
  pub files : live.files ≡ files_listed w.kept

abbrev pub ListedBy : FlushRule → Shown → Shown → Result LiveFiles StoreError → Type 0
ListedBy rule v w (Ok live) = IsOpen v w × HasListed rule v w live
ListedBy rule v w (Err other) = MoveRefused rule v w other

-- ---- pins and disables, which ask no disk and go on where the store is halted

-- the kept pin of a number
abbrev pub kept_pin_of : ℕ → List KeptPin → Option KeptPin
kept_pin_of number [] = None
kept_pin_of number (pin ∷ pins) = if pin.number == number then Some pin else kept_pin_of number pins

-- all kept pins but the one of a number
abbrev pub without_kept : ℕ → List KeptPin → List KeptPin
without_kept number [] = []
without_kept number (pin ∷ pins) = if pin.number == number then without_kept number pins else pin ∷ without_kept number pins

-- the kept pins, where the first one of this one's number is this one
abbrev pub with_kept : KeptPin → List KeptPin → List KeptPin
with_kept new [] = []
with_kept new (pin ∷ pins) = if pin.number == new.number then new ∷ pins else pin ∷ with_kept new pins

-- what is kept when a pin has ended
abbrev pub unpinned : ℕ → Kept → Kept
unpinned number kept = record kept { pins = without_kept number kept.pins }

-- the pin is there
abbrev pub IsPin : ℕ → Kept → KeptPin → Type 0
IsPin number kept pin = kept_pin_of number kept.pins ≡ Some pin

-- it is there and belongs to no checkpoint; or it belongs to one
abbrev pub IsOwnPin : ℕ → Kept → Type 0
IsOwnPin number kept = (pin : KeptPin) × IsPin number kept pin × (pin.job ≡ None)

pub record IsJobPin (number : ℕ) (kept : Kept) (pin : KeptPin) (job : Job) : Type 0 where
  pub found : IsPin number kept pin
  pub job_is : pin.job ≡ Some job

-- the pin of this number is a checkpoint's
abbrev pub HasJob : ℕ → Kept → Type 0
HasJob number kept = (pin : KeptPin) × (job : Job) × IsJobPin number kept pin job

abbrev pub UnpinnedBy : ℕ → Shown → Shown → Result (Unit {0}) StoreError → Type 0
UnpinnedBy number v w (Ok done) = IsOwnPin number v.kept × (w ≡ keeping (unpinned number v.kept) v)
UnpinnedBy number v w (Err (error.NoSuchPin pin)) = (pin ≡ number) × ¬ IsOwnPin number v.kept × (w ≡ v)
UnpinnedBy number v w (Err other) = ⊥

abbrev pub DisabledBy : Shown → Shown → Result ℕ StoreError → Type 0
DisabledBy v w (Ok count) =
    (count ≡ v.kept.disables + 1) × (count ≤ disable_limit) × (w ≡ keeping (record v.kept { disables = count }) v)
DisabledBy v w (Err (error.DisablesFull count)) = (count ≡ v.kept.disables) × (disable_limit ≤ count) × (w ≡ v)
DisabledBy v w (Err other) = ⊥

abbrev pub EnabledBy : Shown → Shown → Result ℕ StoreError → Type 0
EnabledBy v w (Ok count) = (v.kept.disables ≡ count + 1) × (w ≡ keeping (record v.kept { disables = count }) v)
EnabledBy v w (Err error.NotDisabled) = (v.kept.disables ≡ 0) × (w ≡ v)
EnabledBy v w (Err other) = ⊥

-- ---- checkpoints

-- a checkpoint of this open builds the folder
abbrev pub IsUnderWay : List ℕ → Kept → Type 0
IsUnderWay dir kept = (pin : KeptPin) × Contains kept.pins pin × ((job : Job) × (pin.job ≡ Some job) × (job.dir ≡ dir))

-- the work of a checkpoint that has just begun: all of its files are left
abbrev pub new_job : List ℕ → Kept → Job
new_job dir kept = record { dir = dir; left = length (files_listed kept); made = false; copied = 0 }

-- the rows are flushed by the rule, the files that a cut lists are pinned, and all of them are left to be linked or copied
pub record HasBegun (dir : List ℕ) (rule : FlushRule) (v w : Shown) (start : JobStart) : Type 0 where
  pub free : ¬ IsUnderWay dir v.kept
  pub room : length v.kept.pins < pin_limit
  pub at : Kept
  pub moved : HasMovedBy (flushes rule v.kept) v.kept at
  pub rest : w.kept ≡ with_new_pin at (Some (new_job dir at))
  pub pin : start.pin ≡ w.kept.greatest_pin
  pub sequence : start.sequence ≡ at.sequence

-- A refusal behind the cut ends its pin, whose number isn't given again.
pub record HasUnbegun (rule : FlushRule) (v w : Shown) : Type 0 where
  pub at : Kept
  pub moved : MayHaveMoved (flushes rule v.kept) v.kept at
  pub rest : w.kept ≡ record at { greatest_pin = w.kept.greatest_pin }
  pub given : at.greatest_pin ≤ w.kept.greatest_pin
  pub once : w.kept.greatest_pin ≤ at.greatest_pin + 1

-- The disk failed, or was found changed, in a call that halts nothing; or in one that halts the store. Either may come behind
-- the cut.
abbrev pub BeginFailed : List ℕ → FlushRule → Shown → Shown → StoreError → Type 0
BeginFailed dir rule v w refusal = HasUnbegun rule v w × (IsOpen v w ⊎ ChangeRefused (flush_calls ++ clear_calls dir) v w refusal)

-- a folder that is cleared is found changed by these disk calls, which halts nothing
abbrev pub IsClearCall : DiskCall → Type 0
IsClearCall made = IsReadCall made ⊎ (made ≡ call.RemoveFolder)

-- Before the disk is asked a store knows whether a checkpoint of the folder is under way, and whether there is room for a pin.
abbrev pub StartedBy : List ℕ → FlushRule → Shown → Shown → Result JobStart StoreError → Type 0
StartedBy dir rule v w (Ok start) = IsOpen v w × HasBegun dir rule v w start
StartedBy dir rule v w (Err (error.UnderWay other)) = (v.halt ≡ None) × (other ≡ dir) × IsUnderWay dir v.kept × (w ≡ v)
StartedBy dir rule v w (Err (error.PinsFull live)) = PinsFull v w live
StartedBy dir rule v w (Err (error.CheckpointExists other)) = IsOpen v w × (other ≡ dir) × (w.kept ≡ v.kept)
StartedBy dir rule v w (Err error.DiskFault) = Rose v.disk.faults w.disk.faults × BeginFailed dir rule v w error.DiskFault
StartedBy dir rule v w (Err (error.Changed made path)) = Rose v.disk.refusals w.disk.refusals
    × ((w.halt ≡ None) → IsClearCall made) × BeginFailed dir rule v w (error.Changed made path)
StartedBy dir rule v w (Err error.NoMemory) = IsOpen v w × HasUnbegun rule v w
StartedBy dir rule v w (Err other) = MoveRefused rule v w other

-- The work has gone on: a file less is left; or the one in hand was made, or more of it is copied.
pub record GoesFurther (old new : Job) : Type 0 where
  pub dir : new.dir ≡ old.dir
  pub by : (new.left + 1 ≡ old.left)
      ⊎ ((new.left ≡ old.left) × (new.made ≡ true) × ((old.made ≡ false) ⊎ (old.copied < new.copied)))

-- the file that a checkpoint's work has in hand, by how many are left
abbrev pub file_in_hand : KeptPin → Job → List (FileName × ℕ)
file_in_hand pin job = take 1 (drop (length pin.files - job.left) pin.files)

-- where links work no table is copied: the file in hand that is made and not yet whole is none
abbrev pub CopiesNoTable : Shown → KeptPin → Job → Type 0
CopiesNoTable v pin job = (story : Story) → v.disk.told ≡ Some story → (state_of story).links ≡ true → job.made ≡ true
    → (number size : ℕ) → file_in_hand pin job ≢ (Table number, size) ∷ []

-- A step of a checkpoint's work. Where no file was left it does nothing; else the work goes on.
pub record HasStepped (number : ℕ) (v w : Shown) (more : Bool) : Type 0 where
  pub pin : KeptPin
  pub old : Job
  pub new : Job
  pub job : IsJobPin number v.kept pin old
  pub rest : w.kept ≡ record v.kept { pins = with_kept (record pin { job = Some new }) v.kept.pins }
  pub goes : ((old.left ≡ 0) × (new ≡ old)) ⊎ GoesFurther old new
  pub linked : CopiesNoTable v pin old → CopiesNoTable w pin new
  pub more_is : (more ≡ true) ↔ (1 ≤ new.left)

-- no checkpoint has the pin of this number
abbrev pub NoJobOf : ℕ → Shown → ℕ → Type 0
NoJobOf number v pin = (pin ≡ number) × ¬ HasJob number v.kept

-- One of the pin's files isn't there, or has fewer bytes than the pin's.
abbrev pub PinRefused : KeptPin → Shown → Shown → StoreError → Type 0
PinRefused pin v w refusal = (name : FileName) × (len : ℕ) × OneFileRefused name len v w refusal × Contains pin.files (name, len)

-- Why the work of a checkpoint is refused, where it makes these changing disk calls: one of them; or a view of a pinned file
-- failed, or the file isn't there or is too short; or memory was wanting.
abbrev pub WorkRefused : List Aimed → KeptPin → Shown → Shown → StoreError → Type 0
WorkRefused calls pin v w error.NoMemory = IsOpen v w
WorkRefused calls pin v w (error.Changed made path) = ChangeRefused calls v w (error.Changed made path)
WorkRefused calls pin v w error.DiskFault = Rose v.disk.faults w.disk.faults × (IsOpen v w ⊎ ChangeRefused calls v w error.DiskFault)
WorkRefused calls pin v w (error.Missing name) = IsOpen v w × PinRefused pin v w (error.Missing name)
WorkRefused calls pin v w (error.Short name kept found) = IsOpen v w × PinRefused pin v w (error.Short name kept found)
WorkRefused calls pin v w other = ⊥

-- the pin is a checkpoint's, and its work is so refused
pub record JobRefused (calls : List ℕ → List Aimed) (number : ℕ) (v w : Shown) (refusal : StoreError) : Type 0 where
  pub pin : KeptPin
  pub job : Job
  pub of : IsJobPin number v.kept pin job
  pub why : WorkRefused (calls job.dir) pin v w refusal

-- after a refusal the work stands where it stood
abbrev pub SteppedBy : ℕ → Shown → Shown → Result Bool StoreError → Type 0
SteppedBy number v w (Ok more) = IsOpen v w × HasStepped number v w more
SteppedBy number v w (Err (error.NoSuchPin pin)) = NoJobOf number v pin × (w ≡ v)
SteppedBy number v w (Err (error.Halted first)) = HasJob number v.kept × WasHalted first v w
SteppedBy number v w (Err other) = JobRefused copy_calls number v w other × (w.kept ≡ v.kept)

-- the folder's last sequence is the pin's
abbrev pub HasFinished : ℕ → Shown → ℕ → Type 0
HasFinished number v sequence = (pin : KeptPin) × (job : Job) × IsJobPin number v.kept pin job × (sequence ≡ pin.sequence)

-- the folder's name is taken
abbrev pub IsTaken : ℕ → Shown → List ℕ → Type 0
IsTaken number v dir = (pin : KeptPin) × (job : Job) × IsJobPin number v.kept pin job × (job.dir ≡ dir)

-- The steps that are left are done, the folder has its name, and the pin ends. A refusal ends the pin too.
abbrev pub FinishedBy : ℕ → Shown → Shown → Result ℕ StoreError → Type 0
FinishedBy number v w (Ok sequence) = IsOpen v w × HasFinished number v sequence × (w.kept ≡ unpinned number v.kept)
FinishedBy number v w (Err (error.NoSuchPin pin)) = NoJobOf number v pin × (w ≡ v)
FinishedBy number v w (Err (error.Halted first)) =
    HasJob number v.kept × (v.halt ≡ Some first) × (w ≡ keeping (unpinned number v.kept) v)
FinishedBy number v w (Err (error.CheckpointExists dir)) = IsOpen v w × IsTaken number v dir × (w.kept ≡ unpinned number v.kept)
FinishedBy number v w (Err other) = JobRefused end_calls number v w other × (w.kept ≡ unpinned number v.kept)

abbrev pub StoppedBy : ℕ → Shown → Shown → Result (Unit {0}) StoreError → Type 0
StoppedBy number v w (Ok done) = HasJob number v.kept × (w ≡ keeping (unpinned number v.kept) v)
StoppedBy number v w (Err (error.NoSuchPin pin)) = NoJobOf number v pin × (w ≡ v)
StoppedBy number v w (Err other) = ⊥

-- ---- what folders and pins read as

-- nothing that is kept changes, and nothing halts the store that didn't before
abbrev pub OnlyReads : Shown → Shown → Type 0
OnlyReads v w = (w.kept ≡ v.kept) × (w.halt ≡ v.halt)

abbrev pub ReadFolderBy : {T : Type 0} → List ℕ → Shown → Shown → Result T StoreError → Type 0
ReadFolderBy dir v w (Ok shown) = OnlyReads v w
ReadFolderBy dir v w (Err refusal) = FolderRefused dir v w refusal × OnlyReads v w

-- no pin has this number
abbrev pub NoPinOf : ℕ → Shown → ℕ → Type 0
NoPinOf number v pin = (pin ≡ number) × (kept_pin_of number v.kept.pins ≡ None)

abbrev pub ReadPinBy : {T : Type 0} → ℕ → Shown → Shown → Result T StoreError → Type 0
ReadPinBy number v w (Ok shown) = ((pin : KeptPin) × IsPin number v.kept pin) × OnlyReads v w
ReadPinBy number v w (Err (error.NoSuchPin pin)) = NoPinOf number v pin × (w ≡ v)
ReadPinBy number v w (Err other) = ((pin : KeptPin) × IsPin number v.kept pin) × FilesRefused v w other × OnlyReads v w

-- the pin is there and lists no file of this name
abbrev pub NotInPin : ℕ → FileName → Kept → Type 0
NotInPin number name kept = (pin : KeptPin) × IsPin number kept pin × ((len : ℕ) → ¬ Contains pin.files (name, len))

-- the pin has so many bytes of the file
abbrev pub HasPinned : ℕ → FileName → ℕ → Kept → Type 0
HasPinned number name len kept = (pin : KeptPin) × IsPin number kept pin × Contains pin.files (name, len)

-- the bytes of a pinned file, as many as the pin has of it
abbrev pub OpenedPinBy : ℕ → FileName → Shown → Shown → Result (List ℕ) StoreError → Type 0
OpenedPinBy number name v w (Ok bytes) = HasPinned number name (length bytes) v.kept × OnlyReads v w
OpenedPinBy number name v w (Err (error.NoSuchPin pin)) = NoPinOf number v pin × (w ≡ v)
OpenedPinBy number name v w (Err (error.NotInPin pin other)) =
    (pin ≡ number) × (other ≡ name) × NotInPin number name v.kept × (w ≡ v)
OpenedPinBy number name v w (Err other) =
    ((len : ℕ) × HasPinned number name len v.kept × OneFileRefused name len v w other) × OnlyReads v w

-- ---- by the event

-- the reply is one to the event, and its answer is so caused
unfoldable pub CausedBy : Shown → Event → Reply → Shown → Type 0
CausedBy v (event.Write ops sync) r w = Given (answer_of.to_write r) (WroteBy ops v w)
CausedBy v event.SyncLog r w = Given (answer_of.to_sync_log r) (SyncedBy v w)
CausedBy v (event.Get key) r w = Given (answer_of.to_get r) (ReadBy v w)
CausedBy v event.Scan r w = Given (answer_of.to_scan r) (ReadBy v w)
CausedBy v event.Last r w = Given (answer_of.to_last r) (ToldLast v w)
CausedBy v event.WantsFreeze r w = Given (answer_of.to_wants_freeze r) (ToldWantsFreeze v w)
CausedBy v event.Freeze r w = Given (answer_of.to_freeze r) (FrozeBy v w)
CausedBy v event.FlushStep r w = Given (answer_of.to_flush_step r) (FlushedBy v w)
CausedBy v (event.CompactBegin which) r w = Given (answer_of.to_compact_begin r) (BegunBy which v w)
CausedBy v (event.CompactStep rows) r w = Given (answer_of.to_compact_step r) (MergedBy rows v w)
CausedBy v event.DeleteStep r w = Given (answer_of.to_delete_step r) (DeletedBy v w)
CausedBy v (event.Cut rule) r w = Given (answer_of.to_cut r) (CutBy rule v w)
CausedBy v (event.LiveFiles flush) r w = Given (answer_of.to_live_files r) (ListedBy (flush_rule flush) v w)
CausedBy v (event.Unpin pin) r w = Given (answer_of.to_unpin r) (UnpinnedBy pin v w)
CausedBy v event.Disable r w = Given (answer_of.to_disable r) (DisabledBy v w)
CausedBy v event.Enable r w = Given (answer_of.to_enable r) (EnabledBy v w)
CausedBy v (event.CheckpointBegin dir size) r w = Given (answer_of.to_checkpoint_begin r) (StartedBy dir (size_rule size) v w)
CausedBy v (event.CheckpointStep pin) r w = Given (answer_of.to_checkpoint_step r) (SteppedBy pin v w)
CausedBy v (event.CheckpointFinish pin) r w = Given (answer_of.to_checkpoint_finish r) (FinishedBy pin v w)
CausedBy v (event.CheckpointStop pin) r w = Given (answer_of.to_checkpoint_stop r) (StoppedBy pin v w)
CausedBy v (event.Show dir) r w = Given (answer_of.to_show r) (ReadFolderBy dir v w)
CausedBy v (event.ShowPin pin) r w = Given (answer_of.to_show_pin r) (ReadPinBy pin v w)
CausedBy v (event.ReadPinned pin name) r w = Given (answer_of.to_read_pinned r) (OpenedPinBy pin name v w)

-- What each call of a store ensures on every disk: no count falls, and its answer has its cause in what the store keeps and in
-- the counts.
pub record Caused (v : Shown) (e : Event) (r : Reply) (w : Shown) : Type 0 where
  pub counts : CountsHold v w
  pub by : CausedBy v e r w
