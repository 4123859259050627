-- The names of a store's calls: that of an event, and that of a reply.
use Rattle.lsm_model.specs.declared.events.Event.{Event}
use Rattle.lsm_model.specs.declared.events.Event.TheVariants as event
use Rattle.lsm_model.specs.declared.replies.Reply.{Reply}
use Rattle.lsm_model.specs.declared.replies.Reply.TheVariants as reply

pub data Call : Type 0 where
  Write : Call
  SyncLog : Call
  Get : Call
  Scan : Call
  Last : Call
  WantsFreeze : Call
  Freeze : Call
  FlushStep : Call
  CompactBegin : Call
  CompactStep : Call
  DeleteStep : Call
  Cut : Call
  LiveFiles : Call
  Unpin : Call
  Disable : Call
  Enable : Call
  CheckpointBegin : Call
  CheckpointStep : Call
  CheckpointFinish : Call
  CheckpointStop : Call
  Show : Call
  ShowPin : Call
  ReadPinned : Call

-- the call that an event is
abbrev pub call_of : Event → Call
call_of (event.Write batch sync) = Write
call_of event.SyncLog = SyncLog
call_of (event.Get key) = Get
call_of event.Scan = Scan
call_of event.Last = Last
call_of event.WantsFreeze = WantsFreeze
call_of event.Freeze = Freeze
call_of event.FlushStep = FlushStep
call_of (event.CompactBegin which) = CompactBegin
call_of (event.CompactStep rows) = CompactStep
call_of event.DeleteStep = DeleteStep
call_of (event.Cut rule) = Cut
call_of (event.LiveFiles flush) = LiveFiles
call_of (event.Unpin pin) = Unpin
call_of event.Disable = Disable
call_of event.Enable = Enable
call_of (event.CheckpointBegin dir size) = CheckpointBegin
call_of (event.CheckpointStep pin) = CheckpointStep
call_of (event.CheckpointFinish pin) = CheckpointFinish
call_of (event.CheckpointStop pin) = CheckpointStop
call_of (event.Show dir) = Show
call_of (event.ShowPin pin) = ShowPin
call_of (event.ReadPinned pin name) = ReadPinned

-- the call that a reply answers
abbrev pub answered : Reply → Call
answered (reply.Write answer) = Write
answered (reply.SyncLog answer) = SyncLog
answered (reply.Get answer) = Get
answered (reply.Scan answer) = Scan
answered (reply.Last answer) = Last
answered (reply.WantsFreeze answer) = WantsFreeze
answered (reply.Freeze answer) = Freeze
answered (reply.FlushStep answer) = FlushStep
answered (reply.CompactBegin answer) = CompactBegin
answered (reply.CompactStep answer) = CompactStep
answered (reply.DeleteStep answer) = DeleteStep
answered (reply.Cut answer) = Cut
answered (reply.LiveFiles answer) = LiveFiles
answered (reply.Unpin answer) = Unpin
answered (reply.Disable answer) = Disable
answered (reply.Enable answer) = Enable
answered (reply.CheckpointBegin answer) = CheckpointBegin
answered (reply.CheckpointStep answer) = CheckpointStep
answered (reply.CheckpointFinish answer) = CheckpointFinish
answered (reply.CheckpointStop answer) = CheckpointStop
answered (reply.Show answer) = Show
answered (reply.ShowPin answer) = ShowPin
answered (reply.ReadPinned answer) = ReadPinned
