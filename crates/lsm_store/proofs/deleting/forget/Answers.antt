use Rattle.std.specs.Prelude.{not, List}
use Rattle.std.proofs.Common.{rules, sym, subst}
use Rattle.std.proofs.lemmas.Fn.{filter_same}
use Rattle.lsm_names.specs.declared.file_names.FileName.{FileName}
use Rattle.lsm_model.specs.Causes.{same_name}
use Rattle.lsm_refine.specs.Obsolete.{HasWithout}
use Rattle.lsm_store.proofs.Forgets.{without_it}
use Rattle.lsm_store.proofs.deleting.forget.Goals as goal

pub returns : goal.returns
returns c =
    let kept = filter_same _ (λ (other : FileName). not (same_name other c.args.name)) _ (λ x b f k. search rules) _ _
    c.retain.ensures.filtered in
    subst (λ (names : List FileName). HasWithout c.args.name c.args.names.now.items names) (sym kept)
    (without_it c.args.name c.args.names.now.items)
