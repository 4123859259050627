use Rattle.std.proofs.Common.{length, rules}
use Rattle.std.specs.Prelude.{◌==◌}
use Rattle.std.proofs.lemmas.Iterator.{YieldsList-from_slice}
use Rattle.std.proofs.lemmas.Iterator.Search.{position_from_yields_List}
use Rattle.lsm_names.proofs.SharedNameLemmas.{found_underscore, cut_there, some_is_not_none, same_some}
use Rattle.lsm_names.proofs.shared_names.cut_at_underscore.Goals as goal

pub returns-in_err-at : goal.returns-in_err-at
returns-in_err-at c front back none cut =
    let found = position_from_yields_List (λ byte. byte == 95) _ _ c.position.result c.position.ensures.ran (YieldsList-from_slice c.args.text.now cc) (λ x b q k. search rules) in
    absurd (some_is_not_none c.position.result (length front) c.in_err-at.was (found_underscore front back c.args.text.now c.position.result none cut found))

pub returns : goal.returns
returns c front back none cut =
    let found = position_from_yields_List (λ byte. byte == 95) _ _ c.position.result c.position.ensures.ran (YieldsList-from_slice c.args.text.now cc) (λ x b q k. search rules) in
    let there = same_some c.position.result c.in_ok-at.at (length front) c.in_ok-at.was (found_underscore front back c.args.text.now c.position.result none cut found) in
    cut_there front back c.args.text.now c.in_ok-at.at cut there
