use Rattle.lsm_rows.specs.Decoding.{IsRead}
use Rattle.lsm_rows.proofs.decoding.read_ops.Given as goal

abbrev pub invariant-loop-done : goal.invariant-loop-done
invariant-loop-done l = IsRead l.bytes l.first l.count l.done l.ops.items l.place
