-- Why a step is a refusal.
use Rattle.std.specs.Prelude.{◌≡◌, ◌⊎◌, ℕ, ◌+◌, ◌<◌, ◌≤◌, true, List, [], ◌∷◌, length, Option, Some, None, Result, Ok, Err}
use Rattle.std.specs.Str.{bytes_eq}
use Rattle.lsm_io.specs.Causes.{Rose}
use Rattle.lsm_model.specs.declared.errors.StoreError.{StoreError}
use Rattle.lsm_model.specs.declared.errors.StoreError.TheVariants as error
use Rattle.lsm_model.specs.declared.events.Event.{Event}
use Rattle.lsm_model.specs.declared.events.Event.TheVariants as event
use Rattle.lsm_model.specs.declared.replies.Reply.{Reply}
use Rattle.lsm_model.specs.declared.states.State.{State}
use Rattle.lsm_model.specs.Causes.{first_of, halted, sequence_full, pins_full, disables_full, not_disabled, no_pin, no_own_pin, no_job, not_in_pin, is_taken, number_end, table_limit}
use Rattle.lsm_model.specs.declared.cuts.FlushRule.{FlushRule}
use Rattle.lsm_model.specs.Answers.{rule_draws, rule_tables}
use Rattle.lsm_model.specs.Upkeep.{can_freeze, no_number_for_log, table_draws, merge_draws, StayBeside}
use Rattle.lsm_model.specs.Checkpoints.{begin_refusal, size_rule}
use Rattle.lsm_model.specs.Pins.{unpinned, flush_rule}
use Rattle.lsm_model.specs.Reads.{ReadsAs}
use Rattle.lsm_model.specs.Steps as answer_of
use Rattle.lsm_model.specs.Steps.{Made, Asked, Began, Filed, Appended, Sealed, Finished, Closed_file, Closed_tables}
use Rattle.lsm_model.specs.Moves.{Becomes}
use Rattle.lsm_disk.specs.declared.calls.Halt.{Halt}
use Rattle.lsm_disk.specs.declared.dest.DestError.{DestError}
use Rattle.lsm_disk.specs.declared.dest.DestError.TheVariants as dest

-- what a store knows against an event before it asks its disk
abbrev pub known_refusal : Event → State → Option StoreError
known_refusal (event.Write ops sync) s = first_of (halted s ∷ sequence_full (length ops) s ∷ [])
known_refusal event.SyncLog s = halted s
known_refusal event.Freeze s = first_of (halted s ∷ no_number_for_log (can_freeze s) s ∷ [])
known_refusal event.FlushStep s = halted s
known_refusal (event.CompactBegin which) s = halted s
known_refusal (event.CompactStep rows) s = halted s
known_refusal event.DeleteStep s = halted s
known_refusal (event.Cut rule) s = first_of (halted s ∷ pins_full s ∷ [])
known_refusal (event.LiveFiles flush) s = halted s
known_refusal (event.Unpin pin) s = no_own_pin pin s
known_refusal event.Disable s = disables_full s
known_refusal event.Enable s = not_disabled s
known_refusal (event.CheckpointBegin dir size) s = begin_refusal s dir
known_refusal (event.CheckpointStep pin) s = first_of (no_job pin s ∷ halted s ∷ [])
known_refusal (event.CheckpointFinish pin) s = first_of (no_job pin s ∷ halted s ∷ [])
known_refusal (event.CheckpointStop pin) s = no_job pin s
known_refusal (event.ShowPin pin) s = no_pin pin s
known_refusal (event.ReadPinned pin name) s = first_of (no_pin pin s ∷ not_in_pin pin name s ∷ [])
known_refusal (event.Get key) s = None
known_refusal event.Scan s = None
known_refusal event.Last s = None
known_refusal event.WantsFreeze s = None
known_refusal (event.Show dir) s = None

-- the refusal that an answer is, if any
abbrev pub refused : {A : Type 0} → Option (Result A StoreError) → Option StoreError
refused None = None
refused (Some (Ok x)) = None
refused (Some (Err refusal)) = Some refusal

-- the refusal that a reply to an event is, if any
abbrev pub refusal_in : Event → Reply → Option StoreError
refusal_in (event.Write ops sync) r = refused (answer_of.to_write r)
refusal_in event.SyncLog r = refused (answer_of.to_sync_log r)
refusal_in (event.Get key) r = refused (answer_of.to_get r)
refusal_in event.Scan r = refused (answer_of.to_scan r)
refusal_in event.Freeze r = refused (answer_of.to_freeze r)
refusal_in event.FlushStep r = refused (answer_of.to_flush_step r)
refusal_in (event.CompactBegin which) r = refused (answer_of.to_compact_begin r)
refusal_in (event.CompactStep rows) r = refused (answer_of.to_compact_step r)
refusal_in event.DeleteStep r = refused (answer_of.to_delete_step r)
refusal_in (event.Cut rule) r = refused (answer_of.to_cut r)
refusal_in (event.LiveFiles flush) r = refused (answer_of.to_live_files r)
refusal_in (event.Unpin pin) r = refused (answer_of.to_unpin r)
refusal_in event.Disable r = refused (answer_of.to_disable r)
refusal_in event.Enable r = refused (answer_of.to_enable r)
refusal_in (event.CheckpointBegin dir size) r = refused (answer_of.to_checkpoint_begin r)
refusal_in (event.CheckpointStep pin) r = refused (answer_of.to_checkpoint_step r)
refusal_in (event.CheckpointFinish pin) r = refused (answer_of.to_checkpoint_finish r)
refusal_in (event.CheckpointStop pin) r = refused (answer_of.to_checkpoint_stop r)
refusal_in (event.Show dir) r = refused (answer_of.to_show r)
refusal_in (event.ShowPin pin) r = refused (answer_of.to_show_pin r)
refusal_in (event.ReadPinned pin name) r = refused (answer_of.to_read_pinned r)
refusal_in event.Last r = None
refusal_in event.WantsFreeze r = None

-- after such a refusal the state is as it was, but that a finish ends its checkpoint's pin
abbrev pub Unchanged : Event → State → State → Type 0
Unchanged (event.CheckpointFinish pin) s t = (t ≡ s) ⊎ (t ≡ unpinned pin s)
Unchanged other s t = t ≡ s

-- how many file numbers an event draws at most: one for each log, table and manifest that it makes
abbrev pub most_draws : Event → State → ℕ
most_draws event.FlushStep s = table_draws
most_draws (event.CompactStep rows) s = merge_draws rows
most_draws (event.Cut rule) s = rule_draws rule s
most_draws (event.LiveFiles flush) s = rule_draws (flush_rule flush) s
most_draws (event.CheckpointBegin dir size) s = rule_draws (size_rule size) s
most_draws other s = 0

-- where a rule has rows flushed, one table is added to those that were live before, or to one more
abbrev pub MayAddOne : FlushRule → State → ℕ → ℕ → Type 0
MayAddOne rule s live adding = (length s.tables ≤ live) × (live < length s.tables + rule_tables rule s) × (adding ≡ 1)

-- Beside so many live tables an event may add so many: a flush one; a compaction its outputs, where its inputs go.
abbrev pub MayAdd : Event → State → ℕ → ℕ → Type 0
MayAdd event.FlushStep s live adding = (live ≡ length s.tables) × (adding ≡ 1)
MayAdd (event.CompactStep rows) s live adding = StayBeside live s × (adding ≤ s.outputs + rows)
MayAdd (event.Cut rule) s live adding = MayAddOne rule s live adding
MayAdd (event.LiveFiles flush) s live adding = MayAddOne (flush_rule flush) s live adding
MayAdd (event.CheckpointBegin dir size) s live adding = MayAddOne (size_rule size) s live adding
MayAdd other s live adding = ⊥

-- Each refusal has one of these causes, and no other comes.
pub data HasCause (s : State) (e : Event) (refusal : StoreError) (t : State) : Type 0 where
  Known : known_refusal e s ≡ Some refusal → HasCause s e refusal t
  Disk_failed : refusal ≡ error.DiskFault → Rose s.faults t.faults → HasCause s e refusal t
  Memory_wanting : refusal ≡ error.NoMemory → HasCause s e refusal t
  Numbers_full : (next : ℕ) → refusal ≡ error.NumbersFull next → number_end ≤ next → next < s.next + most_draws e s → HasCause s e refusal t
  Tables_full : (live adding : ℕ) → refusal ≡ error.TablesFull live adding → table_limit < live + adding
      → MayAdd e s live adding → HasCause s e refusal t
  Name_taken : (dir : List ℕ) → refusal ≡ error.CheckpointExists dir → is_taken dir s ≡ true → HasCause s e refusal t
  Reads_so : (dir : List ℕ) → e ≡ event.Show dir → ReadsAs s dir (bytes_eq s.own dir) (Err refusal) → HasCause s e refusal t

-- ---- a restore's calls

-- the answer of a restore's call, where it is one
abbrev pub restore_answer : Made → Option (Result (Unit {0}) DestError)
restore_answer (Asked e r) = None
restore_answer (Began dir result) = Some result
restore_answer (Filed name result) = Some result
restore_answer (Appended bytes result) = Some result
restore_answer (Sealed result) = Some result
restore_answer (Finished current result) = Some result
restore_answer Closed_file = None
restore_answer Closed_tables = None

-- Each refusal of a restore's call has one of these causes: a halting call of before, which changes nothing; the disk, which
-- failed and halts the store; the name of a folder that is taken, where one is begun; or want of memory. No other one comes.
pub data HasRestoreCause (s : State) (made : Made) (refusal : DestError) (t : State) : Type 0 where
  Was_halted : (first : Halt) → refusal ≡ dest.Halted first → s.halt ≡ Some first → t ≡ s → HasRestoreCause s made refusal t
  Failed_disk : (first : Halt) → refusal ≡ dest.Fault → s.halt ≡ None → t.halt ≡ Some first → Rose s.faults t.faults
      → HasRestoreCause s made refusal t
  Taken_name : (dir : List ℕ) → made ≡ Began dir (Err refusal) → refusal ≡ dest.Exists → s.halt ≡ None → is_taken dir s ≡ true → Becomes s t
      → HasRestoreCause s made refusal t
  Wanting_memory : refusal ≡ dest.NoMemory → s.halt ≡ None → Becomes s t → HasRestoreCause s made refusal t
