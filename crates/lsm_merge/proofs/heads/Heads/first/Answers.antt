use Rattle.std.proofs.Common.{subst, IfSome}
use Rattle.lsm_merge.specs.Held.{Held, AreFrom}
use Rattle.lsm_merge.proofs.Tops.{top_first}
use Rattle.lsm_merge.proofs.heads.Heads.first.Goals as goal

-- src/heads.rt:124:5
pub returns-clause-first : goal.returns-clause-first
returns-clause-first c = subst (λ (v : Held). IfSome c.peek.result (λ head. AreFrom head.now.row v.heads))
    c.self.view_is (top_first c.peek.result _ c.self.invariant c.peek.ensures.greatest)
