-- The lemma of `Tellings`.
use Rattle.std.specs.Prelude.{nat_le, sum_by}
use Rattle.std.proofs.Common.{ap, ◌∙◌}
use Rattle.lsm_memtable.specs.Sizes.{row_bytes}
use Rattle.lsm_model.specs.Reads.{freeze_size}
use Rattle.lsm_refine.specs.Kept.{Shown}
use Rattle.lsm_store.proofs.Calls.{leads_on}
use Rattle.lsm_store.proofs.Tellings.{IsWanting, tells_wants}
use Rattle.lsm_store.proofs.store.Store.wants_freeze.Given as given
use Rattle.lsm_store.proofs.store.Store.wants_freeze.Goals as goal

at-end : (g : given.Over) (c : goal.After-bytes g) → IsWanting (nat_le freeze_size c.bytes.result) c.args.self.now
at-end g c =
    tells_wants c.args.self.now c.bytes.result
    (c.bytes.ensures.bytes ∙ ap (λ (v : Shown). sum_by row_bytes v.kept.active) c.self.view_is)

pub returns-clause-step : goal.returns-clause-step
returns-clause-step g c = (at-end g c).step

pub returns-clause-causes : goal.returns-clause-causes
returns-clause-causes g c = (at-end g c).causes

pub returns-clause-leads : goal.returns-clause-leads
returns-clause-leads g c start steps = leads_on start steps (at-end g c)
