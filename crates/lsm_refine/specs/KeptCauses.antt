-- Why a store's call is refused, by what the store keeps and by its disk's counts, on every disk.
use Rattle.std.specs.Prelude.{◌≡◌, ℕ, ◌+◌, ◌<◌, ◌≤◌, Bool, if◌then◌else◌, List, length, Some, None}
use Rattle.std.specs.FinMap as finmap
use Rattle.lsm_io.specs.Causes.{Rose}
use Rattle.lsm_names.specs.declared.file_names.FileName.{FileName}
use Rattle.lsm_rows.specs.declared.operations.Op.{Op}
use Rattle.lsm_disk.specs.declared.calls.Halt.{Halt}
use Rattle.lsm_disk.specs.declared.calls.DiskCall.{DiskCall}
use Rattle.lsm_model.specs.declared.cuts.FlushRule.{FlushRule}
use Rattle.lsm_model.specs.declared.errors.StoreError.{StoreError}
use Rattle.lsm_model.specs.declared.errors.StoreError.TheVariants as error
use Rattle.lsm_model.specs.declared.events.Event.{Event}
use Rattle.lsm_model.specs.declared.events.Event.TheVariants as event
use Rattle.lsm_model.specs.Causes.{last_sequence, number_end, table_limit, pin_limit, disable_limit}
use Rattle.lsm_model.specs.Checkpoints.{size_rule}
use Rattle.lsm_model.specs.Pins.{flush_rule}
use Rattle.lsm_refine.specs.Kept.{Kept, Shown}
use Rattle.lsm_refine.specs.Caused.{flush_number, edit_draws, merge_number, rows_draws, flushes, LacksRoom, keeping, unpinned, IsOwnPin, HasJob, kept_pin_of, NotInPin, IsUnderWay, IsTaken}

-- how many file numbers a call draws at most by what the store keeps
abbrev pub moving_draws : FlushRule → Kept → ℕ
moving_draws rule kept = if flushes rule kept then rows_draws kept else 0

abbrev pub draws_of : Event → Kept → ℕ
draws_of event.Freeze kept = 1
draws_of event.FlushStep kept = flush_number kept.flushing + edit_draws kept
draws_of (event.CompactStep rows) kept = merge_number rows kept
draws_of (event.Cut rule) kept = moving_draws rule kept
draws_of (event.LiveFiles flush) kept = moving_draws (flush_rule flush) kept
draws_of (event.CheckpointBegin dir size) kept = moving_draws (size_rule size) kept
draws_of other kept = 0

-- so many tables are live, and one comes to them
abbrev pub AddsOne : Kept → ℕ → ℕ → Type 0
AddsOne kept live adding = (live ≡ finmap.len kept.version) × (adding ≡ 1)

-- Beside so many live tables a call would have so many more: a flush one; a compaction its outputs, where its inputs go.
abbrev pub WouldAdd : Event → Kept → Kept → ℕ → ℕ → Type 0
WouldAdd event.FlushStep old new live adding = AddsOne old live adding
WouldAdd (event.CompactStep rows) old new live adding = LacksRoom rows live adding old new
WouldAdd (event.Cut rule) old new live adding = AddsOne new live adding
WouldAdd (event.LiveFiles flush) old new live adding = AddsOne new live adding
WouldAdd (event.CheckpointBegin dir size) old new live adding = AddsOne new live adding
WouldAdd other old new live adding = ⊥

-- no pin of this number lives that the call may name: one of the caller's own, a checkpoint's, or any
abbrev pub LacksPin : Event → Kept → ℕ → Type 0
LacksPin (event.Unpin number) kept pin = (pin ≡ number) × ¬ IsOwnPin number kept
LacksPin (event.CheckpointStep number) kept pin = (pin ≡ number) × ¬ HasJob number kept
LacksPin (event.CheckpointFinish number) kept pin = (pin ≡ number) × ¬ HasJob number kept
LacksPin (event.CheckpointStop number) kept pin = (pin ≡ number) × ¬ HasJob number kept
LacksPin (event.ShowPin number) kept pin = (pin ≡ number) × (kept_pin_of number kept.pins ≡ None)
LacksPin (event.ReadPinned number name) kept pin = (pin ≡ number) × (kept_pin_of number kept.pins ≡ None)
LacksPin other kept pin = ⊥

-- the call would make this folder
abbrev pub WouldMake : Event → Shown → List ℕ → Type 0
WouldMake (event.CheckpointBegin dir size) v other = other ≡ dir
WouldMake (event.CheckpointFinish number) v other = IsTaken number v other
WouldMake other v dir = ⊥

-- the call reads files: tables, a folder, or a pin's files
abbrev pub Reads : Event → Type 0
Reads (event.Get key) = Unit {0}
Reads event.Scan = Unit {0}
Reads (event.CompactStep rows) = Unit {0}
Reads (event.CheckpointStep number) = Unit {0}
Reads (event.CheckpointFinish number) = Unit {0}
Reads (event.Show dir) = Unit {0}
Reads (event.ShowPin number) = Unit {0}
Reads (event.ReadPinned number name) = Unit {0}
Reads other = ⊥

-- the refusal tells what was read, or that no folder or no CURRENT is there
abbrev pub IsOfReading : StoreError → Type 0
IsOfReading (error.NoFolder dir) = Unit {0}
IsOfReading (error.NoCurrent dir) = Unit {0}
IsOfReading (error.Short name kept found) = Unit {0}
IsOfReading (error.Damaged name place kept found) = Unit {0}
IsOfReading (error.Malformed name place) = Unit {0}
IsOfReading (error.TornLog name place) = Unit {0}
IsOfReading (error.Gap name kept found) = Unit {0}
IsOfReading (error.BadLevels level left right) = Unit {0}
IsOfReading other = ⊥

-- the store is as it was, but that a finish ends its checkpoint's pin
abbrev pub StaysBut : Event → Shown → Shown → Type 0
StaysBut (event.CheckpointFinish number) v w = w ≡ keeping (unpinned number v.kept) v
StaysBut other v w = w ≡ v

-- Each refusal has one of these causes, and no other comes: a halting call of before; the disk, which failed, or was found
-- changed, or lacks a file; memory that was wanting; what the store keeps; or, on a disk that tells, what it is known to hold:
-- a name that is taken, and what was read.
pub data HasKeptCause (v : Shown) (e : Event) (refusal : StoreError) (w : Shown) : Type 0 where
  Was_halted : (first : Halt) → refusal ≡ error.Halted first → v.halt ≡ Some first → StaysBut e v w → HasKeptCause v e refusal w
  Disk_failed : refusal ≡ error.DiskFault → Rose v.disk.faults w.disk.faults → HasKeptCause v e refusal w
  Disk_changed : (made : DiskCall) (path : List ℕ) → refusal ≡ error.Changed made path → Rose v.disk.refusals w.disk.refusals
      → HasKeptCause v e refusal w
  File_missing : (name : FileName) → refusal ≡ error.Missing name → Rose v.disk.refusals w.disk.refusals → HasKeptCause v e refusal w
  Memory_wanting : refusal ≡ error.NoMemory → HasKeptCause v e refusal w
  Sequence_full : (ops : List Op) (sync : Bool) (last : ℕ) → e ≡ event.Write ops sync → refusal ≡ error.SequenceFull last (length ops)
      → last ≡ v.kept.sequence → last_sequence < last + length ops → w ≡ v → HasKeptCause v e refusal w
  Numbers_full : (next : ℕ) → refusal ≡ error.NumbersFull next → next ≡ w.kept.next → number_end ≤ next
      → next < v.kept.next + draws_of e v.kept → HasKeptCause v e refusal w
  Tables_full : (live adding : ℕ) → refusal ≡ error.TablesFull live adding → table_limit < live + adding
      → WouldAdd e v.kept w.kept live adding → HasKeptCause v e refusal w
  Pins_full : (live : ℕ) → refusal ≡ error.PinsFull live → live ≡ length v.kept.pins → pin_limit ≤ live → w ≡ v
      → HasKeptCause v e refusal w
  Disables_full : (count : ℕ) → refusal ≡ error.DisablesFull count → count ≡ v.kept.disables → disable_limit ≤ count → w ≡ v
      → HasKeptCause v e refusal w
  Not_disabled : refusal ≡ error.NotDisabled → v.kept.disables ≡ 0 → w ≡ v → HasKeptCause v e refusal w
  Lacks_pin : (pin : ℕ) → refusal ≡ error.NoSuchPin pin → LacksPin e v.kept pin → w ≡ v → HasKeptCause v e refusal w
  Lacks_name : (pin : ℕ) (name : FileName) → e ≡ event.ReadPinned pin name → refusal ≡ error.NotInPin pin name
      → NotInPin pin name v.kept → w ≡ v → HasKeptCause v e refusal w
  Folder_under_way : (dir : List ℕ) → refusal ≡ error.UnderWay dir → WouldMake e v dir → IsUnderWay dir v.kept → w ≡ v
      → HasKeptCause v e refusal w
  Name_taken : (dir : List ℕ) → refusal ≡ error.CheckpointExists dir → WouldMake e v dir → HasKeptCause v e refusal w
  Read_so : IsOfReading refusal → Reads e → HasKeptCause v e refusal w
