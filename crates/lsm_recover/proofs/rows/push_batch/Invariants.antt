use Rattle.std.proofs.Common.{length}
use Rattle.std.specs.Prelude.{◌+◌, ◌^◌, ◌<◌}
use Rattle.lsm_recover.proofs.RowLemmas.{HasPushed}
use Rattle.lsm_recover.proofs.rows.push_batch.Given as goal

abbrev pub invariant-loop-op : goal.invariant-loop-op
invariant-loop-op l = l.fn.last + length l.ops < 2 ^ 64 → HasPushed l.fn.last l.ops l.initial.rows l.op-index l.last l.rows
