use Rattle.std.proofs.Common.{◌≡◌, ◌-◌, drop}
use Rattle.std.specs.Prelude.{sum_by}
use Rattle.lsm_model.specs.States.{op_bytes}
use Rattle.lsm_model.proofs.lookups.less_ops.Given as goal

abbrev pub invariant-loop-op : goal.invariant-loop-op
invariant-loop-op l = l.left - sum_by op_bytes (drop l.op-index l.ops) ≡ l.number - sum_by op_bytes l.ops
