use Rattle.std.proofs.Common.{◌∙◌, sym}
use Rattle.bk_meta.proofs.FileLemmas.{private_unnamed, private_none, private_some}
use Rattle.bk_meta.proofs.NumberLemmas.{at_ok, at_err}
use Rattle.bk_meta.proofs.backup_files.private_name.Goals as goal

pub returns-in_err-name : goal.returns-in_err-name
returns-in_err-name c =
    let refused = at_err c.parse.result _ _ (sym c.ok.ensures.value ∙ c.in_err-name.was) c.parse.ensures.refused in
    rw c.from_residual.ensures (private_unnamed c.args.text.now refused.1)

pub returns-in-Table : goal.returns-in-Table
returns-in-Table c =
    let found = sym c.ok.ensures.value ∙ c.in_ok-name.was in
    private_none c.args.text.now c.in_ok-name.name c.in-Table.is (at_ok c.parse.result c.in_ok-name.name _ _ found c.parse.ensures.number)
    (at_ok c.parse.result c.in_ok-name.name _ _ found c.parse.ensures.spelling)

pub returns-in_default : goal.returns-in_default
returns-in_default c =
    let found = sym c.ok.ensures.value ∙ c.in_ok-name.was in
    private_some c.args.text.now c.in_ok-name.name c.in_default.not-Table c.in_default.not-Temp (at_ok c.parse.result c.in_ok-name.name _ _ found c.parse.ensures.number)
    (at_ok c.parse.result c.in_ok-name.name _ _ found c.parse.ensures.spelling)
