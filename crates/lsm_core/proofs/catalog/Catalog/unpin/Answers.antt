-- The pins without those of the number are the pins that are kept.
use Rattle.std.specs.Prelude.{◌==◌, not, List}
use Rattle.std.proofs.Common.{rules, sym, ap, subst, ◌∙◌}
use Rattle.std.proofs.lemmas.Fn.{filter_same}
use Rattle.lsm_refine.specs.Kept.{KeptPin}
use Rattle.lsm_refine.specs.Caused.{unpinned}
use Rattle.lsm_core.specs.Catalogs.{IsCatalog, kept_with}
use Rattle.lsm_core.proofs.ByNumber.{filtered_by, catalog_without}
use Rattle.lsm_core.proofs.catalog.Catalog.unpin.Goals as goal

pub invariant_of-self : goal.invariant_of-self
invariant_of-self g c =
    let kept = filter_same _ (λ (pin : KeptPin). not (pin.number == c.args.number)) _ (λ x b f k. search rules) _ _
    c.retain.ensures.filtered in
    subst (λ (pins : List KeptPin). IsCatalog c.self.inside.version c.self.inside.tables pins c.self.inside.greatest_pin)
    (sym (kept ∙ filtered_by c.args.number c.self.inside.pins.items))
    (catalog_without c.args.number c.self.inside.version c.self.inside.tables c.self.inside.pins.items c.self.inside.greatest_pin c.self.invariant)

pub returns-clause-kept : goal.returns-clause-kept
returns-clause-kept g c =
    let kept = filter_same _ (λ (pin : KeptPin). not (pin.number == c.args.number)) _ (λ x b f k. search rules) _ _
    c.retain.ensures.filtered in
    ap (λ (pins : List KeptPin). kept_with c.self.inside.version c.self.inside.tables c.self.inside.log c.self.inside.last pins
    c.self.inside.greatest_pin c.self.inside.disables) (kept ∙ filtered_by c.args.number c.self.inside.pins.items)
    ∙ ap (unpinned c.args.number) c.self.view_is
