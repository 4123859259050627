use Rattle.std.proofs.Common.{◌≡◌, drop}
use Rattle.lsm_rows.specs.Replay.{replayed}
use Rattle.lsm_rows.proofs.pairs.Pairs.replay.Given as goal

abbrev pub invariant-loop-batch : goal.invariant-loop-batch
invariant-loop-batch l = replayed l.self (drop l.batch-index l.batches) ≡ replayed l.fn.self l.batches
