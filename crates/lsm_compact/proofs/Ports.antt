-- What a call of a compaction leaves of its port.
use Rattle.std.specs.Prelude.{◌≡◌, ℕ, List, Option, Some, None}
use Rattle.std.proofs.Common.{refl, arith, ◌∙◌}
use Rattle.lsm_rows.specs.declared.rows.Row.{Row}
use Rattle.lsm_compact.specs.declared.port.PortFault.{PortFault}
use Rattle.lsm_compact.specs.Ports.{IsKept}

none_is : (fault : PortFault) → None ≡ Some fault → ⊥
none_is fault is = cc

-- nothing was called
pub unmoved : {P : Type 0} (told : P → Option (ℕ → List Row)) (faults : P → ℕ) (port : P) → IsKept told faults port port None
unmoved told faults port = record {
  rows = refl;
  later = omega arith;
  read = λ number is. absurd (none_is _ is);
  disk = λ refusal is _. absurd (none_is _ is);
}

-- calls of which none was refused, and then some more
pub kept_then : {P : Type 0} (told : P → Option (ℕ → List Row)) (faults : P → ℕ) (a b c : P) (fault : Option PortFault)
    → IsKept told faults a b None → IsKept told faults b c fault → IsKept told faults a c fault
kept_then told faults a b c fault first second = record {
  rows = second.rows ∙ first.rows;
  later = let m = first.later in let n = second.later in omega (arith, m, n);
  read = λ number is. let m = first.later in let n = second.read number is in omega (arith, m, n);
  disk = λ refusal is why. let m = first.later in let n = second.disk refusal is why in omega (arith, m, n);
}
