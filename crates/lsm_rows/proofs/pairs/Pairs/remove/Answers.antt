use Rattle.std.proofs.Common.{ap, ◌∙◌}
use Rattle.std.specs.FinMap as finite
use Rattle.lsm_rows.specs.Replay.{Contents}
use Rattle.lsm_rows.proofs.PairEntries.{contents_removed}
use Rattle.lsm_rows.proofs.pairs.Pairs.remove.Goals as goal

pub returns : goal.returns
returns c =
    contents_removed c.self.inside.values.entries c.remove.new.self.entries c.args.key.now c.remove.ensures.updates.1 c.remove.ensures.updates.3
    ∙ ap (λ (m : Contents). finite.remove m c.args.key.now) c.self.view_is
