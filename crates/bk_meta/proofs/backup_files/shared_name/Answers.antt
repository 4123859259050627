use Rattle.std.proofs.Common.{◌∙◌, sym, ap}
use Rattle.bk_meta.specs.BackupFiles.{shared_name}
use Rattle.bk_meta.proofs.FileLemmas.{shared_unnamed, shared_found}
use Rattle.bk_meta.proofs.NumberLemmas.{at_ok, at_err}
use Rattle.bk_meta.proofs.backup_files.shared_name.Goals as goal

pub returns-in_err-name : goal.returns-in_err-name
returns-in_err-name c =
    let refused = at_err c.parse.result _ _ (sym c.ok.ensures.value ∙ c.in_err-name.was) c.parse.ensures.refused in
    rw c.from_residual.ensures (shared_unnamed c.args.text.now refused.1)

pub keeps_its_rules-requires : goal.keeps_its_rules-requires
keeps_its_rules-requires c = at_ok c.parse.result c.in_ok-name.name _ _ (sym c.ok.ensures.value ∙ c.in_ok-name.was) c.parse.ensures.number

pub returns : goal.returns
returns c =
    let spells = at_ok c.parse.result c.in_ok-name.name _ _ (sym c.ok.ensures.value ∙ c.in_ok-name.was) c.parse.ensures.spelling in
    sym (shared_found c.in_ok-name.name c.keeps_its_rules.ensures) ∙ ap shared_name (sym spells)
