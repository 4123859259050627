-- The lemma of `Tellings`.
use Rattle.std.specs.Prelude.{ℕ}
use Rattle.std.proofs.Common.{sym, ap, subst}
use Rattle.lsm_refine.specs.Kept.{Shown}
use Rattle.lsm_store.proofs.Calls.{leads_on}
use Rattle.lsm_store.proofs.Tellings.{IsLast, tells_last}
use Rattle.lsm_store.proofs.store.Store.last.Given as given
use Rattle.lsm_store.proofs.store.Store.last.Goals as goal

at-end : (g : given.Over) (c : goal.After-self g) → IsLast c.self.inside.sequence c.args.self.now
at-end g c =
    subst (λ (n : ℕ). IsLast n c.args.self.now) (sym (ap (λ (v : Shown). v.kept.sequence) c.self.view_is))
    (tells_last c.args.self.now)

pub returns-clause-step : goal.returns-clause-step
returns-clause-step g c = (at-end g c).step

pub returns-clause-causes : goal.returns-clause-causes
returns-clause-causes g c = (at-end g c).causes

pub returns-clause-leads : goal.returns-clause-leads
returns-clause-leads g c start steps = leads_on start steps (at-end g c)
