use Rattle.std.proofs.Common.{◌∙◌, subst, List}
use Rattle.turn_lock.specs.declared.turn.Pass.{Pass}
use Rattle.turn_lock.specs.Passes.{IsJoined}
use Rattle.tests_turn.specs.Counts.{counts}
use Rattle.tests_turn.proofs.Sums.{counted, is_one}
use Rattle.tests_turn.proofs.counter.counted_by_three.Goals as goal

pub returns : goal.returns
returns g c =
    let news = c.unpacked-list.ensures.passes in
    let more = c.three_added-one.ensures in
    counted c.args.from c.args.first c.args.second c.args.third c.three_added-one.result.0 c.three_added-one.result.1 c.three_added-one.result.2 c.close-n.result
    (subst (λ (items : List (Pass _ _ _)). IsJoined counts items c.close-n.result) c.packed.ensures c.close-n.ensures.joined)
    (more.first.start_is ∙ news.first_is.start_is)
    (is_one _ 0 _ _ _ _ news.first_is more.first)
    (is_one _ 1 _ _ _ _ news.second_is more.second)
    (is_one _ 2 _ _ _ _ news.third_is more.third)
