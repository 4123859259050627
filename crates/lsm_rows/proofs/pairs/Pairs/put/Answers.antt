use Rattle.std.proofs.Common.{◌∙◌}
use Rattle.std.specs.FinMap as finite
use Rattle.lsm_rows.proofs.PairEntries.{contents_put}
use Rattle.lsm_rows.proofs.pairs.Pairs.put.Goals as goal

pub returns : goal.returns
returns c =
    contents_put c.self.inside.values.entries c.insert.new.self.entries c.in_ok-key.key c.in_ok-value.value c.in_ok-insert.ensures.entries
    ∙ (λ i. finite.insert (c.self.view_is i) (c.in_ok-key.ensures.items i) (c.in_ok-value.ensures.items i))
