-- The answer of a call is a step of its event.
use Rattle.std.specs.Prelude.{◌≡◌, ℕ, Bool, List, Option, Result}
use Rattle.std.proofs.Common.{sym, subst}
use Rattle.lsm_names.specs.declared.file_names.FileName.{FileName}
use Rattle.lsm_rows.specs.declared.operations.Op.{Op}
use Rattle.lsm_rows.specs.Replay.{Contents}
use Rattle.lsm_model.specs.declared.cuts.Cut.{Cut}
use Rattle.lsm_model.specs.declared.cuts.FlushRule.{FlushRule}
use Rattle.lsm_model.specs.declared.cuts.LiveFiles.{LiveFiles}
use Rattle.lsm_model.specs.declared.errors.StoreError.{StoreError}
use Rattle.lsm_model.specs.declared.events.Event.{Event}
use Rattle.lsm_model.specs.declared.events.Event.TheVariants as event
use Rattle.lsm_model.specs.declared.events.Which.{Which}
use Rattle.lsm_model.specs.declared.replies.Begun.{Begun}
use Rattle.lsm_model.specs.declared.replies.Deleted.{Deleted}
use Rattle.lsm_model.specs.declared.replies.Flushed.{Flushed}
use Rattle.lsm_model.specs.declared.replies.JobStart.{JobStart}
use Rattle.lsm_model.specs.declared.replies.Reply.{Reply}
use Rattle.lsm_model.specs.declared.replies.Reply.TheVariants as reply
use Rattle.lsm_model.specs.declared.replies.Shown.{Shown}
use Rattle.lsm_model.specs.declared.replies.Stepped.{Stepped}
use Rattle.lsm_model.specs.declared.states.State.{State}
use Rattle.lsm_model.specs.Checkpoints.{BeginsCheckpoint, StepsCheckpoint, FinishesCheckpoint, StopsCheckpoint}
use Rattle.lsm_model.specs.Pins.{Cuts, ListsFiles, Unpins, Disables, Enables}
use Rattle.lsm_model.specs.Reads.{Gets, Scans, TellsLast, TellsWantsFreeze, Shows, ShowsPin, ReadsPinned}
use Rattle.lsm_model.specs.Steps.{Step}
use Rattle.lsm_model.specs.Upkeep.{Freezes, StepsFlush, BeginsCompaction, StepsCompaction, Deletes}
use Rattle.lsm_model.specs.Writes.{Writes, SyncsLog}

-- a step of an event is one of an event that is the same
pub step_of : (s t : State) (e f : Event) (r : Reply) → e ≡ f → Step s f r t → Step s e r t
step_of s t e f r is step = subst (λ (event : Event). Step s event r t) (sym is) step

module _ (s t : State) where
  pub step_write : (ops : List Op) (sync : Bool) (r : Result ℕ StoreError) → Writes s ops sync r t → Step s (event.Write ops sync) (reply.Write r) t
  unfolding Step
  step_write ops sync r step = step

  pub step_sync_log : (r : Result (Unit {0}) StoreError) → SyncsLog s r t → Step s event.SyncLog (reply.SyncLog r) t
  unfolding Step
  step_sync_log r step = step

  pub step_get : (key : List ℕ) (r : Result (Option (List ℕ)) StoreError) → Gets s key r t → Step s (event.Get key) (reply.Get r) t
  unfolding Step
  step_get key r step = step

  pub step_scan : (r : Result Contents StoreError) → Scans s r t → Step s event.Scan (reply.Scan r) t
  unfolding Step
  step_scan r step = step

  pub step_freeze : (r : Result Bool StoreError) → Freezes s r t → Step s event.Freeze (reply.Freeze r) t
  unfolding Step
  step_freeze r step = step

  pub step_flush_step : (r : Result Flushed StoreError) → StepsFlush s r t → Step s event.FlushStep (reply.FlushStep r) t
  unfolding Step
  step_flush_step r step = step

  pub step_compact_begin : (which : Which) (r : Result Begun StoreError) → BeginsCompaction s which r t → Step s (event.CompactBegin which) (reply.CompactBegin r) t
  unfolding Step
  step_compact_begin which r step = step

  pub step_compact_step : (rows : ℕ) (r : Result Stepped StoreError) → StepsCompaction s rows r t → Step s (event.CompactStep rows) (reply.CompactStep r) t
  unfolding Step
  step_compact_step rows r step = step

  pub step_delete_step : (r : Result Deleted StoreError) → Deletes s r t → Step s event.DeleteStep (reply.DeleteStep r) t
  unfolding Step
  step_delete_step r step = step

  pub step_cut : (rule : FlushRule) (r : Result Cut StoreError) → Cuts s rule r t → Step s (event.Cut rule) (reply.Cut r) t
  unfolding Step
  step_cut rule r step = step

  pub step_live_files : (flush : Bool) (r : Result LiveFiles StoreError) → ListsFiles s flush r t → Step s (event.LiveFiles flush) (reply.LiveFiles r) t
  unfolding Step
  step_live_files flush r step = step

  pub step_unpin : (pin : ℕ) (r : Result (Unit {0}) StoreError) → Unpins s pin r t → Step s (event.Unpin pin) (reply.Unpin r) t
  unfolding Step
  step_unpin pin r step = step

  pub step_disable : (r : Result ℕ StoreError) → Disables s r t → Step s event.Disable (reply.Disable r) t
  unfolding Step
  step_disable r step = step

  pub step_enable : (r : Result ℕ StoreError) → Enables s r t → Step s event.Enable (reply.Enable r) t
  unfolding Step
  step_enable r step = step

  pub step_checkpoint_begin : (dir : List ℕ) (size : ℕ) (r : Result JobStart StoreError) → BeginsCheckpoint s dir size r t → Step s (event.CheckpointBegin dir size) (reply.CheckpointBegin r) t
  unfolding Step
  step_checkpoint_begin dir size r step = step

  pub step_checkpoint_step : (pin : ℕ) (r : Result Bool StoreError) → StepsCheckpoint s pin r t → Step s (event.CheckpointStep pin) (reply.CheckpointStep r) t
  unfolding Step
  step_checkpoint_step pin r step = step

  pub step_checkpoint_finish : (pin : ℕ) (r : Result ℕ StoreError) → FinishesCheckpoint s pin r t → Step s (event.CheckpointFinish pin) (reply.CheckpointFinish r) t
  unfolding Step
  step_checkpoint_finish pin r step = step

  pub step_checkpoint_stop : (pin : ℕ) (r : Result (Unit {0}) StoreError) → StopsCheckpoint s pin r t → Step s (event.CheckpointStop pin) (reply.CheckpointStop r) t
  unfolding Step
  step_checkpoint_stop pin r step = step

  pub step_show_pin : (pin : ℕ) (r : Result Shown StoreError) → ShowsPin s pin r t → Step s (event.ShowPin pin) (reply.ShowPin r) t
  unfolding Step
  step_show_pin pin r step = step

  pub step_read_pinned : (pin : ℕ) (name : FileName) (r : Result (List ℕ) StoreError) → ReadsPinned s pin name r t → Step s (event.ReadPinned pin name) (reply.ReadPinned r) t
  unfolding Step
  step_read_pinned pin name r step = step

  pub step_last : (r : ℕ) → TellsLast s r t → Step s event.Last (reply.Last r) t
  unfolding Step
  step_last r step = step

  pub step_wants_freeze : (r : Bool) → TellsWantsFreeze s r t → Step s event.WantsFreeze (reply.WantsFreeze r) t
  unfolding Step
  step_wants_freeze r step = step

  pub step_show : (dir : List ℕ) (r : Result Shown StoreError) → Shows s dir r t → Step s (event.Show dir) (reply.Show r) t
  unfolding Step
  step_show dir r step = step
