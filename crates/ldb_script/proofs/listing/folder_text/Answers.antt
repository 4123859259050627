use Rattle.std.proofs.Common.{◌++◌, ℕ, List, length, map, ap, sym, ◌∙◌, append_assoc}
use Rattle.std.specs.FinMap as finite
use Rattle.std.specs.List.{flat_map}
use Rattle.lsm_rows.specs.Replay.{Contents}
use Rattle.lsm_rows.specs.Pairs.{pair_of}
use Rattle.ldb_script.specs.Printed.{pair_line, end_line, sequence_line}
use Rattle.lsm_rows.proofs.PairEntries.{entries_contents}
use Rattle.ldb_script.proofs.listing.folder_text.Goals as goal

pub returns : goal.returns
returns c =
    let es = c.entries.result.now.entries in
    let lines = c.in_ok-push_pairs.ensures.pairs ∙ ap (λ (t : List ℕ). t ++ flat_map pair_line (map pair_of es)) c.in_ok-text.ensures
    ∙ ap (λ (m : List (List ℕ × List ℕ)). sequence_line c.args.found.now.sequence ++ flat_map pair_line m) (sym (entries_contents es c.in_ok-push_pairs.ensures.ordered) ∙ ap (λ (m : Contents). finite.entries m) c.entries.ensures) in
    c.in_ok-push_end.ensures ∙ (λ i. lines i ++ end_line (c.count.ensures i))
    ∙ append_assoc (sequence_line c.args.found.now.sequence) (flat_map pair_line (finite.entries c.args.found.now.contents)) (end_line (length (finite.entries c.args.found.now.contents)))
