use Rattle.std.proofs.Common.{◌≡◌, ◌-◌, drop, length}
use Rattle.std.specs.Prelude.{sum_by}
use Rattle.lsm_model.proofs.lookups.less_operations.Given as goal

abbrev pub invariant-loop-batch : goal.invariant-loop-batch
invariant-loop-batch l = l.left - sum_by length (drop l.batch-index l.batches) ≡ l.number - sum_by length l.batches
