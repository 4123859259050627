use Rattle.std.proofs.Common.{◌≡◌, [], take, drop}
use Rattle.ldb_script.specs.Plain.{first_refusal}
use Rattle.ldb_script.proofs.script.build_batch.Given as goal

abbrev pub invariant-loop-op : goal.invariant-loop-op
invariant-loop-op l = record {
  built : l.batch ≡ take l.op-index l.ops;
  refused : first_refusal [] l.ops ≡ first_refusal l.batch (drop l.op-index l.ops);
}
