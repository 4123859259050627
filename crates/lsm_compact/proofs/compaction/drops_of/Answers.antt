use Rattle.std.proofs.Common.{◌∙◌}
use Rattle.std.proofs.lemmas.List.{take_all}
use Rattle.lsm_compact.proofs.compaction.drops_of.Goals as goal

pub returns : goal.returns
returns c = c.loop-place.invariant ∙ take_all c.loop-place.place-index c.args.places.now c.loop-place-test.false
