-- Which reply leads from which state to which, by the event; and runs of such steps.
use Rattle.std.specs.Prelude.{◌≡◌, ℕ, Bool, List, [], ◌∷◌, map, Option, Some, None, Result}
use Rattle.lsm_names.specs.declared.file_names.FileName.{FileName}
use Rattle.lsm_disk.specs.declared.calls.DiskCall.TheVariants as disk
use Rattle.lsm_disk.specs.declared.dest.DestError.{DestError}
use Rattle.lsm_rows.specs.Replay.{Contents}
use Rattle.lsm_model.specs.declared.errors.StoreError.{StoreError}
use Rattle.lsm_model.specs.declared.cuts.Cut.{Cut}
use Rattle.lsm_model.specs.declared.cuts.LiveFiles.{LiveFiles}
use Rattle.lsm_model.specs.declared.events.Event.{Event}
use Rattle.lsm_model.specs.declared.events.Event.TheVariants as event
use Rattle.lsm_model.specs.declared.replies.Reply.{Reply}
use Rattle.lsm_model.specs.declared.replies.Reply.TheVariants as reply
use Rattle.lsm_model.specs.declared.replies.Flushed.{Flushed}
use Rattle.lsm_model.specs.declared.replies.Begun.{Begun}
use Rattle.lsm_model.specs.declared.replies.Stepped.{Stepped}
use Rattle.lsm_model.specs.declared.replies.Deleted.{Deleted}
use Rattle.lsm_model.specs.declared.replies.JobStart.{JobStart}
use Rattle.lsm_model.specs.declared.replies.Shown.{Shown}
use Rattle.lsm_model.specs.declared.states.State.{State}
use Rattle.lsm_model.specs.Writes.{Writes, SyncsLog}
use Rattle.lsm_model.specs.Reads.{Gets, Scans, TellsLast, TellsWantsFreeze, Shows, ShowsPin, ReadsPinned}
use Rattle.lsm_model.specs.Upkeep.{Freezes, StepsFlush, BeginsCompaction, StepsCompaction, Deletes}
use Rattle.lsm_model.specs.Pins.{Cuts, ListsFiles, Unpins, Disables, Enables}
use Rattle.lsm_model.specs.Checkpoints.{BeginsCheckpoint, StepsCheckpoint, FinishesCheckpoint, StopsCheckpoint}
use Rattle.lsm_model.specs.Destination.{BeginsFolder, FillsFolder, FinishesFolder}
use Rattle.lsm_model.specs.Moves.{Becomes}

-- ---- the answer that a reply holds, where it is one to that call

abbrev pub to_write : Reply → Option (Result ℕ StoreError)
to_write (reply.Write answer) = Some answer
to_write other = None

abbrev pub to_sync_log : Reply → Option (Result (Unit {0}) StoreError)
to_sync_log (reply.SyncLog answer) = Some answer
to_sync_log other = None

abbrev pub to_get : Reply → Option (Result (Option (List ℕ)) StoreError)
to_get (reply.Get answer) = Some answer
to_get other = None

abbrev pub to_scan : Reply → Option (Result Contents StoreError)
to_scan (reply.Scan answer) = Some answer
to_scan other = None

abbrev pub to_last : Reply → Option (ℕ)
to_last (reply.Last answer) = Some answer
to_last other = None

abbrev pub to_wants_freeze : Reply → Option (Bool)
to_wants_freeze (reply.WantsFreeze answer) = Some answer
to_wants_freeze other = None

abbrev pub to_freeze : Reply → Option (Result Bool StoreError)
to_freeze (reply.Freeze answer) = Some answer
to_freeze other = None

abbrev pub to_flush_step : Reply → Option (Result Flushed StoreError)
to_flush_step (reply.FlushStep answer) = Some answer
to_flush_step other = None

abbrev pub to_compact_begin : Reply → Option (Result Begun StoreError)
to_compact_begin (reply.CompactBegin answer) = Some answer
to_compact_begin other = None

abbrev pub to_compact_step : Reply → Option (Result Stepped StoreError)
to_compact_step (reply.CompactStep answer) = Some answer
to_compact_step other = None

abbrev pub to_delete_step : Reply → Option (Result Deleted StoreError)
to_delete_step (reply.DeleteStep answer) = Some answer
to_delete_step other = None

abbrev pub to_cut : Reply → Option (Result Cut StoreError)
to_cut (reply.Cut answer) = Some answer
to_cut other = None

abbrev pub to_live_files : Reply → Option (Result LiveFiles StoreError)
to_live_files (reply.LiveFiles answer) = Some answer
to_live_files other = None

abbrev pub to_unpin : Reply → Option (Result (Unit {0}) StoreError)
to_unpin (reply.Unpin answer) = Some answer
to_unpin other = None

abbrev pub to_disable : Reply → Option (Result ℕ StoreError)
to_disable (reply.Disable answer) = Some answer
to_disable other = None

abbrev pub to_enable : Reply → Option (Result ℕ StoreError)
to_enable (reply.Enable answer) = Some answer
to_enable other = None

abbrev pub to_checkpoint_begin : Reply → Option (Result JobStart StoreError)
to_checkpoint_begin (reply.CheckpointBegin answer) = Some answer
to_checkpoint_begin other = None

abbrev pub to_checkpoint_step : Reply → Option (Result Bool StoreError)
to_checkpoint_step (reply.CheckpointStep answer) = Some answer
to_checkpoint_step other = None

abbrev pub to_checkpoint_finish : Reply → Option (Result ℕ StoreError)
to_checkpoint_finish (reply.CheckpointFinish answer) = Some answer
to_checkpoint_finish other = None

abbrev pub to_checkpoint_stop : Reply → Option (Result (Unit {0}) StoreError)
to_checkpoint_stop (reply.CheckpointStop answer) = Some answer
to_checkpoint_stop other = None

abbrev pub to_show : Reply → Option (Result Shown StoreError)
to_show (reply.Show answer) = Some answer
to_show other = None

abbrev pub to_show_pin : Reply → Option (Result Shown StoreError)
to_show_pin (reply.ShowPin answer) = Some answer
to_show_pin other = None

abbrev pub to_read_pinned : Reply → Option (Result (List ℕ) StoreError)
to_read_pinned (reply.ReadPinned answer) = Some answer
to_read_pinned other = None

-- the reply is one to the call, and its answer is so
abbrev pub Given : {A : Type 0} → Option A → (A → Type 0) → Type 0
Given None Answer = ⊥
Given (Some answer) Answer = Answer answer

-- ---- steps

-- The event is answered by this reply in the first state, and leaves the second. A refusal is a step too.
unfoldable pub Step : State → Event → Reply → State → Type 0
Step s (event.Write batch sync) r t = Given (to_write r) (λ answer. Writes s batch sync answer t)
Step s event.SyncLog r t = Given (to_sync_log r) (λ answer. SyncsLog s answer t)
Step s (event.Get key) r t = Given (to_get r) (λ answer. Gets s key answer t)
Step s event.Scan r t = Given (to_scan r) (λ answer. Scans s answer t)
Step s event.Last r t = Given (to_last r) (λ answer. TellsLast s answer t)
Step s event.WantsFreeze r t = Given (to_wants_freeze r) (λ answer. TellsWantsFreeze s answer t)
Step s event.Freeze r t = Given (to_freeze r) (λ answer. Freezes s answer t)
Step s event.FlushStep r t = Given (to_flush_step r) (λ answer. StepsFlush s answer t)
Step s (event.CompactBegin which) r t = Given (to_compact_begin r) (λ answer. BeginsCompaction s which answer t)
Step s (event.CompactStep rows) r t = Given (to_compact_step r) (λ answer. StepsCompaction s rows answer t)
Step s event.DeleteStep r t = Given (to_delete_step r) (λ answer. Deletes s answer t)
Step s (event.Cut rule) r t = Given (to_cut r) (λ answer. Cuts s rule answer t)
Step s (event.LiveFiles flush) r t = Given (to_live_files r) (λ answer. ListsFiles s flush answer t)
Step s (event.Unpin pin) r t = Given (to_unpin r) (λ answer. Unpins s pin answer t)
Step s event.Disable r t = Given (to_disable r) (λ answer. Disables s answer t)
Step s event.Enable r t = Given (to_enable r) (λ answer. Enables s answer t)
Step s (event.CheckpointBegin dir size) r t = Given (to_checkpoint_begin r) (λ answer. BeginsCheckpoint s dir size answer t)
Step s (event.CheckpointStep pin) r t = Given (to_checkpoint_step r) (λ answer. StepsCheckpoint s pin answer t)
Step s (event.CheckpointFinish pin) r t = Given (to_checkpoint_finish r) (λ answer. FinishesCheckpoint s pin answer t)
Step s (event.CheckpointStop pin) r t = Given (to_checkpoint_stop r) (λ answer. StopsCheckpoint s pin answer t)
Step s (event.Show dir) r t = Given (to_show r) (λ answer. Shows s dir answer t)
Step s (event.ShowPin pin) r t = Given (to_show_pin r) (λ answer. ShowsPin s pin answer t)
Step s (event.ReadPinned pin name) r t = Given (to_read_pinned r) (λ answer. ReadsPinned s pin name answer t)

-- ---- calls that are no events, and runs

-- A call with its answer: an event with its reply; a call of the store as a place for one restored folder, which is begun,
-- gets its files one by one and is finished; or one that takes views back, which answers nothing.
pub data Made : Type 0 where
  Asked : Event → Reply → Made
  Began : (dir : List ℕ) → Result (Unit {0}) DestError → Made
  Filed : FileName → Result (Unit {0}) DestError → Made
  Appended : (bytes : List ℕ) → Result (Unit {0}) DestError → Made
  Sealed : Result (Unit {0}) DestError → Made
  Finished : (current : List ℕ) → Result (Unit {0}) DestError → Made
  Closed_file : Made
  Closed_tables : Made

-- The call is answered so in the first state, and leaves the second. Views that are taken back may raise the disk's counts.
abbrev pub Makes : State → Made → State → Type 0
Makes s (Asked e r) t = Step s e r t
Makes s (Began dir result) t = BeginsFolder s dir result t
Makes s (Filed name result) t = FillsFolder disk.Create s result t
Makes s (Appended bytes result) t = FillsFolder disk.Append s result t
Makes s (Sealed result) t = FillsFolder disk.Sync s result t
Makes s (Finished current result) t = FinishesFolder s result t
Makes s Closed_file t = Becomes s t
Makes s Closed_tables t = Becomes s t

-- The calls are answered so, one after another.
abbrev pub Run : State → List Made → State → Type 0
Run s [] t = t ≡ s
Run s (made ∷ steps) t = (mid : State) × Makes s made mid × Run mid steps t

-- events with their replies, as what is made
abbrev pub all_asked : List (Event × Reply) → List Made
all_asked steps = map (λ (step : Event × Reply). Asked step.0 step.1) steps
