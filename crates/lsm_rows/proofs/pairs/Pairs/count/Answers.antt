use Rattle.std.proofs.Common.{length, ap, sym, ◌∙◌}
use Rattle.std.specs.FinMap as finite
use Rattle.std.proofs.lemmas.List.{length-map}
use Rattle.lsm_rows.specs.Replay.{Contents}
use Rattle.lsm_rows.specs.Pairs.{pair_of}
use Rattle.lsm_rows.proofs.PairEntries.{entries_contents}
use Rattle.lsm_rows.proofs.pairs.Pairs.count.Goals as goal

pub returns : goal.returns
returns c =
    let es = c.self.inside.values.entries in
    c.len.ensures.len ∙ sym (length-map es pair_of) ∙ ap length (sym (entries_contents es c.len.ensures.ordered)) ∙ ap (λ (m : Contents). length (finite.entries m)) c.self.view_is
