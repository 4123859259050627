use Rattle.std.specs.Prelude.{◌^◌, ◌<◌}
use Rattle.lsm_rows.specs.Replay.{sequence_after}
use Rattle.lsm_recover.proofs.RowLemmas.{HasPushedAll}
use Rattle.lsm_recover.proofs.rows.push_batches.Given as goal

abbrev pub invariant-loop-batch : goal.invariant-loop-batch
invariant-loop-batch l = sequence_after l.fn.last l.batches < 2 ^ 64 → HasPushedAll l.fn.last l.batches l.initial.rows l.batch-index l.last l.rows
