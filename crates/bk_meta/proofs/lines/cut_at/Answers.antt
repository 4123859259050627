use Rattle.std.proofs.Common.{rules}
use Rattle.std.specs.Prelude.{◌==◌}
use Rattle.std.proofs.lemmas.Iterator.{YieldsList-from_slice}
use Rattle.std.proofs.lemmas.Iterator.Search.{position_from_yields_List}
use Rattle.bk_meta.proofs.LineLemmas.{cut_found, cut_lost}
use Rattle.bk_meta.proofs.lines.cut_at.Goals as goal

pub returns-in_err-at : goal.returns-in_err-at
returns-in_err-at c =
    let found = position_from_yields_List (λ byte. byte == c.args.mark) _ _ c.position.result c.position.ensures.ran (YieldsList-from_slice c.args.text.now cc) (λ x b q k. search rules) in
    let lost = cut_lost c.args.mark c.args.text.now c.position.result found c.in_err-at.was in
    rw c.from_residual.ensures lost

pub returns : goal.returns
returns c =
    let found = position_from_yields_List (λ byte. byte == c.args.mark) _ _ c.position.result c.position.ensures.ran (YieldsList-from_slice c.args.text.now cc) (λ x b q k. search rules) in
    cut_found c.args.mark c.args.text.now c.position.result c.in_ok-at.at found c.in_ok-at.was
