use Rattle.std.proofs.Common.{ap, ◌∙◌, subst}
use Rattle.std.specs.FinMap as finmap
use Rattle.lsm_refine.specs.Kept.{Kept}
use Rattle.lsm_core.specs.Catalogs.{HasTableMore}
use Rattle.lsm_core.proofs.Added.{table_more}
use Rattle.lsm_core.proofs.catalog.Catalog.with_table.Goals as goal

pub returns-in-Ok : goal.returns-in-Ok
returns-in-Ok g c info log next last edit_is none numbered fits =
    subst (λ (k : Kept). HasTableMore k.version info c.in-Ok.version) c.self.view_is
    (table_more c.self.inside.version c.in-Ok.version c.args.edit.now info log next last c.self.invariant.range edit_is
    (ap (λ (k : Kept). finmap.get k.version info.number) c.self.view_is ∙ none) numbered fits c.in-Ok.ensures.ok)
