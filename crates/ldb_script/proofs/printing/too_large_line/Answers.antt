use Rattle.std.proofs.Common.{ℕ, List, ◌++◌, ◌∷◌, [], ap, ◌∙◌, codes}
use Rattle.std.specs.Fmt.{decimal}
use Rattle.std.proofs.lemmas.Result.{IfOk-weaker}
use Rattle.ldb_script.specs.Printed.{too_large_line}
use Rattle.ldb_script.proofs.printing.too_large_line.Goals as goal

pub returns : goal.returns
unfolding too_large_line
returns c =
    let named = ap (λ (name : List ℕ). codes "refused BatchTooLarge " ++ (name ++ (codes " " ++ (decimal c.args.kept ++ (codes " " ++ (decimal c.args.limit ++ 10 ∷ [])))))) c.what_name-what.ensures in
    IfOk-weaker c.from_slice.result _ _ (λ text is. is ∙ c.as_bytes.ensures.value ∙ c.in_ok-text.ensures.ok ∙ named) c.from_slice.ensures
