use Rattle.std.proofs.Common.{◌∙◌, ap}
use Rattle.std.specs.List.{fold}
use Rattle.lsm_rows.specs.Replay.{applied, replayed}
use Rattle.lsm_rows.proofs.Replaying.{one_more, all_done}
use Rattle.lsm_rows.proofs.pairs.Pairs.replay.Goals as goal

pub loop-batch-preserved : goal.loop-batch-preserved
loop-batch-preserved c =
    one_more c.args.batches.now (replayed c.args.self.now c.args.batches.now) c.loop-batch.self c.loop-batch.batch-index c.loop-batch.invariant c.batch-item.result c.apply_all.new.self c.loop-batch-test.true c.batch-item.is (c.in_ok-apply_all.ensures ∙ ap (fold applied c.loop-batch.self) c.ops.ensures.ops)

pub returns : goal.returns
returns c = all_done c.args.batches.now (replayed c.args.self.now c.args.batches.now) c.loop-batch.self c.loop-batch.batch-index c.loop-batch.invariant c.loop-batch-test.false
