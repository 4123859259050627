use Rattle.std.proofs.Common.{ℕ, List, ap, ◌∙◌}
use Rattle.std.specs.Prelude.{Some}
use Rattle.std.specs.FinMap as finite
use Rattle.lsm_rows.specs.Replay.{Contents}
use Rattle.lsm_rows.proofs.PairEntries.{value_at}
use Rattle.lsm_rows.proofs.pairs.Pairs.get.Goals as goal

pub returns-in-Some : goal.returns-in-Some
returns-in-Some c =
    ap (λ (l : List ℕ). Some l) c.as_slice.ensures.value
    ∙ value_at c.self.inside.values.entries c.args.key.now _ c.in-Some.ensures.value
    ∙ ap (λ (m : Contents). finite.get m c.args.key.now) c.self.view_is

pub returns-in-None : goal.returns-in-None
returns-in-None c =
    value_at c.self.inside.values.entries c.args.key.now _ c.in-None.ensures.value
    ∙ ap (λ (m : Contents). finite.get m c.args.key.now) c.self.view_is
