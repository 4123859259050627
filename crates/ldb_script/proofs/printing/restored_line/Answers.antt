use Rattle.std.proofs.Common.{ℕ, List, ◌++◌, ◌∷◌, [], ap, ◌∙◌, codes, append_assoc}
use Rattle.std.specs.Fmt.{decimal}
use Rattle.std.proofs.lemmas.Result.{IfOk-weaker}
use Rattle.ldb_script.specs.Printed.{restored_line}
use Rattle.ldb_script.proofs.printing.restored_line.Goals as goal

pub returns : goal.returns
unfolding restored_line
returns c =
    let name : List ℕ = c.args.name.now ++ 10 ∷ [] in
    let front = ap (λ (f : List ℕ). f ++ name) (c.as_bytes.ensures.value ∙ c.in_ok-front.ensures.ok) ∙ append_assoc (codes "restored ") (decimal c.args.id ++ 32 ∷ []) name ∙ ap (λ (f : List ℕ). codes "restored " ++ f) (append_assoc (decimal c.args.id) (32 ∷ []) name) in
    IfOk-weaker c.named_line.result _ _ (λ text is. is ∙ front) c.named_line.ensures
