use Rattle.std.proofs.Common.{◌∙◌}
use Rattle.lsm_scan.proofs.Sorted.{no_pairs}
use Rattle.lsm_scan.proofs.pairs.sorted_pairs.Goals as goal

pub loop-place-init : goal.loop-place-init
loop-place-init c = c.new-pairs.ensures ∙ no_pairs
