use Rattle.std.proofs.Common.{◌++◌, ℕ, List, map, ap, sym, ◌∙◌}
use Rattle.std.specs.FinMap as finite
use Rattle.std.specs.List.{flat_map}
use Rattle.lsm_rows.specs.Replay.{Contents}
use Rattle.lsm_rows.specs.Pairs.{pair_of}
use Rattle.ldb_script.specs.Printed.{pair_line, end_line}
use Rattle.lsm_rows.proofs.PairEntries.{entries_contents}
use Rattle.ldb_script.proofs.listing.scan_text.Goals as goal

pub returns : goal.returns
returns c =
    let es = c.entries.result.now.entries in
    let lines = c.in_ok-push_pairs.ensures.pairs ∙ ap (λ (t : List ℕ). t ++ flat_map pair_line (map pair_of es)) c.new-text.ensures
    ∙ ap (flat_map pair_line) (sym (entries_contents es c.in_ok-push_pairs.ensures.ordered) ∙ ap (λ (m : Contents). finite.entries m) c.entries.ensures) in
    c.in_ok-push_end.ensures ∙ (λ i. lines i ++ end_line (c.count.ensures i))
