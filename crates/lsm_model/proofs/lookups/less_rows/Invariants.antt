use Rattle.std.proofs.Common.{◌≡◌, ◌-◌, drop}
use Rattle.lsm_model.specs.States.{bytes_of}
use Rattle.lsm_model.proofs.lookups.less_rows.Given as goal

abbrev pub invariant-loop-batch : goal.invariant-loop-batch
invariant-loop-batch l = l.left - bytes_of (drop l.batch-index l.batches) ≡ l.number - bytes_of l.batches
