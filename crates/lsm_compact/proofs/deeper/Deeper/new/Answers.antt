use Rattle.std.proofs.Common.{ap, ◌∙◌}
use Rattle.std.proofs.lemmas.List.{take_all}
use Rattle.std.specs.List.{flat_map}
use Rattle.lsm_compact.specs.Ranges.{ranges_at}
use Rattle.lsm_compact.proofs.RangeLemmas.{all_ranges}
use Rattle.lsm_compact.proofs.deeper.Deeper.new.Goals as goal

pub returns : goal.returns
returns c =
    let tables = c.args.version.now in
    let choice = c.args.choice.now in
    let all = c.loop-place-test.false in
    all_ranges tables choice c.loop-place.deeper c.requires (c.loop-place.invariant
    ∙ ap (flat_map (ranges_at tables choice)) (take_all c.loop-place.place-index c.as_slice-place-items.result.now all
    ∙ c.as_slice-place-items.ensures ∙ c.in_ok-places.ensures))
