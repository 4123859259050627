use Rattle.std.proofs.Common.{subst}
use Rattle.lsm_model.specs.Plain.{state_of}
use Rattle.lsm_model.specs.Reads.{Gets}
use Rattle.lsm_model.proofs.StepLemmas as step
use Rattle.lsm_model.proofs.plain.PlainLists.answer.Goals as goal

pub returns-in-Write-clause-step : goal.returns-in-Write-clause-step
returns-in-Write-clause-step c = step.step_of _ _ _ _ _ c.in-Write.is (step.step_write (state_of c.args.self.now) (state_of c.write.new.self) c.in-Write.batch c.in-Write.sync c.write.result c.write.ensures.step)

pub returns-in-SyncLog-clause-step : goal.returns-in-SyncLog-clause-step
returns-in-SyncLog-clause-step c = step.step_of _ _ _ _ _ c.in-SyncLog.is (step.step_sync_log (state_of c.args.self.now) (state_of c.sync_log.new.self) c.sync_log.result c.sync_log.ensures.step)

pub returns-in-Get-clause-step : goal.returns-in-Get-clause-step
returns-in-Get-clause-step c = step.step_of _ _ _ _ _ c.in-Get.is (step.step_get (state_of c.args.self.now) (state_of c.args.self.now) c.in-Get.key c.get.result (subst (λ (key : _). Gets (state_of c.args.self.now) key c.get.result (state_of c.args.self.now)) c.as_slice.ensures c.get.ensures))

pub returns-in-Scan-clause-step : goal.returns-in-Scan-clause-step
returns-in-Scan-clause-step c = step.step_of _ _ _ _ _ c.in-Scan.is (step.step_scan (state_of c.args.self.now) (state_of c.args.self.now) c.scan.result c.scan.ensures)

pub returns-in-Freeze-clause-step : goal.returns-in-Freeze-clause-step
returns-in-Freeze-clause-step c = step.step_of _ _ _ _ _ c.in-Freeze.is (step.step_freeze (state_of c.args.self.now) (state_of c.freeze.new.self) c.freeze.result c.freeze.ensures.step)

pub returns-in-FlushStep-clause-step : goal.returns-in-FlushStep-clause-step
returns-in-FlushStep-clause-step c = step.step_of _ _ _ _ _ c.in-FlushStep.is (step.step_flush_step (state_of c.args.self.now) (state_of c.flush_step.new.self) c.flush_step.result c.flush_step.ensures.step)

pub returns-in-CompactBegin-clause-step : goal.returns-in-CompactBegin-clause-step
returns-in-CompactBegin-clause-step c = step.step_of _ _ _ _ _ c.in-CompactBegin.is (step.step_compact_begin (state_of c.args.self.now) (state_of c.args.self.now) c.in-CompactBegin.which c.compact_begin.result c.compact_begin.ensures)

pub returns-in-CompactStep-clause-step : goal.returns-in-CompactStep-clause-step
returns-in-CompactStep-clause-step c = step.step_of _ _ _ _ _ c.in-CompactStep.is (step.step_compact_step (state_of c.args.self.now) (state_of c.args.self.now) c.in-CompactStep.rows c.compact_step.result (c.compact_step.ensures c.in-CompactStep.rows))

pub returns-in-DeleteStep-clause-step : goal.returns-in-DeleteStep-clause-step
returns-in-DeleteStep-clause-step c = step.step_of _ _ _ _ _ c.in-DeleteStep.is (step.step_delete_step (state_of c.args.self.now) (state_of c.args.self.now) c.delete_step.result c.delete_step.ensures)

pub returns-in-Cut-clause-step : goal.returns-in-Cut-clause-step
returns-in-Cut-clause-step c = step.step_of _ _ _ _ _ c.in-Cut.is (step.step_cut (state_of c.args.self.now) (state_of c.cut.new.self) c.in-Cut.rule c.cut.result c.cut.ensures.step)

pub returns-in-LiveFiles-clause-step : goal.returns-in-LiveFiles-clause-step
returns-in-LiveFiles-clause-step c = step.step_of _ _ _ _ _ c.in-LiveFiles.is (step.step_live_files (state_of c.args.self.now) (state_of c.live_files.new.self) c.in-LiveFiles.flush c.live_files.result c.live_files.ensures.step)

pub returns-in-Unpin-clause-step : goal.returns-in-Unpin-clause-step
returns-in-Unpin-clause-step c = step.step_of _ _ _ _ _ c.in-Unpin.is (step.step_unpin (state_of c.args.self.now) (state_of c.unpin.new.self) c.in-Unpin.pin c.unpin.result c.unpin.ensures.step)

pub returns-in-Disable-clause-step : goal.returns-in-Disable-clause-step
returns-in-Disable-clause-step c = step.step_of _ _ _ _ _ c.in-Disable.is (step.step_disable (state_of c.args.self.now) (state_of c.disable.new.self) c.disable.result c.disable.ensures.step)

pub returns-in-Enable-clause-step : goal.returns-in-Enable-clause-step
returns-in-Enable-clause-step c = step.step_of _ _ _ _ _ c.in-Enable.is (step.step_enable (state_of c.args.self.now) (state_of c.enable.new.self) c.enable.result c.enable.ensures.step)

pub returns-in-CheckpointBegin-clause-step : goal.returns-in-CheckpointBegin-clause-step
returns-in-CheckpointBegin-clause-step c = step.step_of _ _ _ _ _ c.in-CheckpointBegin.is (step.step_checkpoint_begin (state_of c.args.self.now) (state_of c.checkpoint_begin.new.self) c.in-CheckpointBegin.dir c.in-CheckpointBegin.log_size_for_flush c.checkpoint_begin.result c.checkpoint_begin.ensures.step)

pub returns-in-CheckpointStep-clause-step : goal.returns-in-CheckpointStep-clause-step
returns-in-CheckpointStep-clause-step c = step.step_of _ _ _ _ _ c.in-CheckpointStep.is (step.step_checkpoint_step (state_of c.args.self.now) (state_of c.args.self.now) c.in-CheckpointStep.pin c.checkpoint_step.result c.checkpoint_step.ensures)

pub returns-in-CheckpointFinish-clause-step : goal.returns-in-CheckpointFinish-clause-step
returns-in-CheckpointFinish-clause-step c = step.step_of _ _ _ _ _ c.in-CheckpointFinish.is (step.step_checkpoint_finish (state_of c.args.self.now) (state_of c.checkpoint_finish.new.self) c.in-CheckpointFinish.pin c.checkpoint_finish.result c.checkpoint_finish.ensures.step)

pub returns-in-CheckpointStop-clause-step : goal.returns-in-CheckpointStop-clause-step
returns-in-CheckpointStop-clause-step c = step.step_of _ _ _ _ _ c.in-CheckpointStop.is (step.step_checkpoint_stop (state_of c.args.self.now) (state_of c.checkpoint_stop.new.self) c.in-CheckpointStop.pin c.checkpoint_stop.result c.checkpoint_stop.ensures.step)

pub returns-in-ShowPin-clause-step : goal.returns-in-ShowPin-clause-step
returns-in-ShowPin-clause-step c = step.step_of _ _ _ _ _ c.in-ShowPin.is (step.step_show_pin (state_of c.args.self.now) (state_of c.args.self.now) c.in-ShowPin.pin c.show_pin.result c.show_pin.ensures)

pub returns-in-ReadPinned-clause-step : goal.returns-in-ReadPinned-clause-step
returns-in-ReadPinned-clause-step c = step.step_of _ _ _ _ _ c.in-ReadPinned.is (step.step_read_pinned (state_of c.args.self.now) (state_of c.args.self.now) c.in-ReadPinned.pin c.in-ReadPinned.name c.read_pinned.result c.read_pinned.ensures)

pub returns-in-Last-clause-step : goal.returns-in-Last-clause-step
returns-in-Last-clause-step c = step.step_of _ _ _ _ _ c.in-Last.is (step.step_last (state_of c.args.self.now) (state_of c.args.self.now) c.last.result c.last.ensures)

pub returns-in-WantsFreeze-clause-step : goal.returns-in-WantsFreeze-clause-step
returns-in-WantsFreeze-clause-step c = step.step_of _ _ _ _ _ c.in-WantsFreeze.is (step.step_wants_freeze (state_of c.args.self.now) (state_of c.args.self.now) c.wants_freeze.result c.wants_freeze.ensures)

pub returns-in-Show-clause-step : goal.returns-in-Show-clause-step
returns-in-Show-clause-step c = step.step_of _ _ _ _ _ c.in-Show.is (step.step_show (state_of c.args.self.now) (state_of c.args.self.now) c.in-Show.dir c.show.result c.show.ensures)
