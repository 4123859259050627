-- A step's reply is one to the call that its event is.
use Rattle.std.specs.Prelude.{◌≡◌, true, is_some, Option, Some, None}
use Rattle.std.proofs.Common.{refl}
use Rattle.lsm_model.specs.declared.events.Event.{Event}
use Rattle.lsm_model.specs.declared.events.Event.TheVariants as event
use Rattle.lsm_model.specs.declared.replies.Reply.{Reply}
use Rattle.lsm_model.specs.declared.replies.Reply.TheVariants as reply
use Rattle.lsm_model.specs.declared.states.State.{State}
use Rattle.lsm_model.specs.Steps as Steps
use Rattle.lsm_model.specs.Steps.{Given, Step}
use Rattle.lsm_model.specs.Calls.{call_of, answered}
use Rattle.lsm_model.specs.Calls as call

-- an answer is there
given_some : {A : Type 0} (o : Option A) (P : A → Type 0) → Given o P → is_some o ≡ true
given_some None P h = absurd h
given_some (Some x) P h = refl

to_write : (r : Reply) → is_some (Steps.to_write r) ≡ true → answered r ≡ call.Write
to_write (reply.Write answer) h = refl
to_write other h = absurd (cc)

to_sync_log : (r : Reply) → is_some (Steps.to_sync_log r) ≡ true → answered r ≡ call.SyncLog
to_sync_log (reply.SyncLog answer) h = refl
to_sync_log other h = absurd (cc)

to_get : (r : Reply) → is_some (Steps.to_get r) ≡ true → answered r ≡ call.Get
to_get (reply.Get answer) h = refl
to_get other h = absurd (cc)

to_scan : (r : Reply) → is_some (Steps.to_scan r) ≡ true → answered r ≡ call.Scan
to_scan (reply.Scan answer) h = refl
to_scan other h = absurd (cc)

to_last : (r : Reply) → is_some (Steps.to_last r) ≡ true → answered r ≡ call.Last
to_last (reply.Last answer) h = refl
to_last other h = absurd (cc)

to_wants_freeze : (r : Reply) → is_some (Steps.to_wants_freeze r) ≡ true → answered r ≡ call.WantsFreeze
to_wants_freeze (reply.WantsFreeze answer) h = refl
to_wants_freeze other h = absurd (cc)

to_freeze : (r : Reply) → is_some (Steps.to_freeze r) ≡ true → answered r ≡ call.Freeze
to_freeze (reply.Freeze answer) h = refl
to_freeze other h = absurd (cc)

to_flush_step : (r : Reply) → is_some (Steps.to_flush_step r) ≡ true → answered r ≡ call.FlushStep
to_flush_step (reply.FlushStep answer) h = refl
to_flush_step other h = absurd (cc)

to_compact_begin : (r : Reply) → is_some (Steps.to_compact_begin r) ≡ true → answered r ≡ call.CompactBegin
to_compact_begin (reply.CompactBegin answer) h = refl
to_compact_begin other h = absurd (cc)

to_compact_step : (r : Reply) → is_some (Steps.to_compact_step r) ≡ true → answered r ≡ call.CompactStep
to_compact_step (reply.CompactStep answer) h = refl
to_compact_step other h = absurd (cc)

to_delete_step : (r : Reply) → is_some (Steps.to_delete_step r) ≡ true → answered r ≡ call.DeleteStep
to_delete_step (reply.DeleteStep answer) h = refl
to_delete_step other h = absurd (cc)

to_cut : (r : Reply) → is_some (Steps.to_cut r) ≡ true → answered r ≡ call.Cut
to_cut (reply.Cut answer) h = refl
to_cut other h = absurd (cc)

to_live_files : (r : Reply) → is_some (Steps.to_live_files r) ≡ true → answered r ≡ call.LiveFiles
to_live_files (reply.LiveFiles answer) h = refl
to_live_files other h = absurd (cc)

to_unpin : (r : Reply) → is_some (Steps.to_unpin r) ≡ true → answered r ≡ call.Unpin
to_unpin (reply.Unpin answer) h = refl
to_unpin other h = absurd (cc)

to_disable : (r : Reply) → is_some (Steps.to_disable r) ≡ true → answered r ≡ call.Disable
to_disable (reply.Disable answer) h = refl
to_disable other h = absurd (cc)

to_enable : (r : Reply) → is_some (Steps.to_enable r) ≡ true → answered r ≡ call.Enable
to_enable (reply.Enable answer) h = refl
to_enable other h = absurd (cc)

to_checkpoint_begin : (r : Reply) → is_some (Steps.to_checkpoint_begin r) ≡ true → answered r ≡ call.CheckpointBegin
to_checkpoint_begin (reply.CheckpointBegin answer) h = refl
to_checkpoint_begin other h = absurd (cc)

to_checkpoint_step : (r : Reply) → is_some (Steps.to_checkpoint_step r) ≡ true → answered r ≡ call.CheckpointStep
to_checkpoint_step (reply.CheckpointStep answer) h = refl
to_checkpoint_step other h = absurd (cc)

to_checkpoint_finish : (r : Reply) → is_some (Steps.to_checkpoint_finish r) ≡ true → answered r ≡ call.CheckpointFinish
to_checkpoint_finish (reply.CheckpointFinish answer) h = refl
to_checkpoint_finish other h = absurd (cc)

to_checkpoint_stop : (r : Reply) → is_some (Steps.to_checkpoint_stop r) ≡ true → answered r ≡ call.CheckpointStop
to_checkpoint_stop (reply.CheckpointStop answer) h = refl
to_checkpoint_stop other h = absurd (cc)

to_show : (r : Reply) → is_some (Steps.to_show r) ≡ true → answered r ≡ call.Show
to_show (reply.Show answer) h = refl
to_show other h = absurd (cc)

to_show_pin : (r : Reply) → is_some (Steps.to_show_pin r) ≡ true → answered r ≡ call.ShowPin
to_show_pin (reply.ShowPin answer) h = refl
to_show_pin other h = absurd (cc)

to_read_pinned : (r : Reply) → is_some (Steps.to_read_pinned r) ≡ true → answered r ≡ call.ReadPinned
to_read_pinned (reply.ReadPinned answer) h = refl
to_read_pinned other h = absurd (cc)

pub reply_of_event : (s t : State) (e : Event) (r : Reply) → Step s e r t → answered r ≡ call_of e
unfolding Step
reply_of_event s t (event.Write ops sync) r h = to_write r (given_some (Steps.to_write r) _ h)
reply_of_event s t event.SyncLog r h = to_sync_log r (given_some (Steps.to_sync_log r) _ h)
reply_of_event s t (event.Get key) r h = to_get r (given_some (Steps.to_get r) _ h)
reply_of_event s t event.Scan r h = to_scan r (given_some (Steps.to_scan r) _ h)
reply_of_event s t event.Last r h = to_last r (given_some (Steps.to_last r) _ h)
reply_of_event s t event.WantsFreeze r h = to_wants_freeze r (given_some (Steps.to_wants_freeze r) _ h)
reply_of_event s t event.Freeze r h = to_freeze r (given_some (Steps.to_freeze r) _ h)
reply_of_event s t event.FlushStep r h = to_flush_step r (given_some (Steps.to_flush_step r) _ h)
reply_of_event s t (event.CompactBegin which) r h = to_compact_begin r (given_some (Steps.to_compact_begin r) _ h)
reply_of_event s t (event.CompactStep rows) r h = to_compact_step r (given_some (Steps.to_compact_step r) _ h)
reply_of_event s t event.DeleteStep r h = to_delete_step r (given_some (Steps.to_delete_step r) _ h)
reply_of_event s t (event.Cut rule) r h = to_cut r (given_some (Steps.to_cut r) _ h)
reply_of_event s t (event.LiveFiles flush) r h = to_live_files r (given_some (Steps.to_live_files r) _ h)
reply_of_event s t (event.Unpin pin) r h = to_unpin r (given_some (Steps.to_unpin r) _ h)
reply_of_event s t event.Disable r h = to_disable r (given_some (Steps.to_disable r) _ h)
reply_of_event s t event.Enable r h = to_enable r (given_some (Steps.to_enable r) _ h)
reply_of_event s t (event.CheckpointBegin dir size) r h = to_checkpoint_begin r (given_some (Steps.to_checkpoint_begin r) _ h)
reply_of_event s t (event.CheckpointStep pin) r h = to_checkpoint_step r (given_some (Steps.to_checkpoint_step r) _ h)
reply_of_event s t (event.CheckpointFinish pin) r h = to_checkpoint_finish r (given_some (Steps.to_checkpoint_finish r) _ h)
reply_of_event s t (event.CheckpointStop pin) r h = to_checkpoint_stop r (given_some (Steps.to_checkpoint_stop r) _ h)
reply_of_event s t (event.Show dir) r h = to_show r (given_some (Steps.to_show r) _ h)
reply_of_event s t (event.ShowPin pin) r h = to_show_pin r (given_some (Steps.to_show_pin r) _ h)
reply_of_event s t (event.ReadPinned pin name) r h = to_read_pinned r (given_some (Steps.to_read_pinned r) _ h)
