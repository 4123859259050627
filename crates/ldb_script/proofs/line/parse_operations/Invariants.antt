use Rattle.std.proofs.Common.{◌≡◌, ◌≤◌, ℕ, List, Bor, map, drop, length}
use Rattle.std.specs.Prelude.{◌-◌}
use Rattle.ldb_script.specs.Script.{operations}
use Rattle.ldb_script.proofs.NamedOperations.{then_more}
use Rattle.ldb_script.proofs.line.parse_operations.Given as goal

abbrev pub invariant-loop-at : goal.invariant-loop-at
invariant-loop-at l = record {
  within : l.at ≤ length l.words;
  are : then_more l.ops.items (operations (drop l.at (map (λ (w : Bor (List ℕ)). w.now) l.words))) ≡ operations (map (λ (w : Bor (List ℕ)). w.now) l.words);
}

abbrev pub decreases-loop-at : goal.decreases-loop-at
decreases-loop-at l = length l.words - l.at
