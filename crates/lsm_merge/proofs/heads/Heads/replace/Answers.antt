use Rattle.std.proofs.Common.{ap}
use Rattle.lsm_merge.specs.Held.{Held}
use Rattle.lsm_merge.proofs.Tops.{popped_first, popped_rest}
use Rattle.lsm_merge.proofs.heads.Heads.replace.Goals as goal

-- src/heads.rt:150:5
pub returns-clause-first : goal.returns-clause-first
returns-clause-first c = popped_first c.pop.result c.unwrap-head.result _ _ _ c.unwrap-head.ensures
    (ap (λ (v : Held). v.heads) c.self.view_is) c.self.invariant c.pop.ensures.heap_order

-- src/heads.rt:150:5
pub returns-clause-replaced : goal.returns-clause-replaced
returns-clause-replaced c = record {
  rest = _;
  taken = popped_rest c.pop.result c.unwrap-head.result _ _ _
      c.unwrap-head.ensures (ap (λ (v : Held). v.heads) c.self.view_is) c.pop.ensures.permutation;
  put = c.put.ensures;
}
