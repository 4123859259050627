use Rattle.std.proofs.Common.{rules, ◌∙◌, not, ◌==◌}
use Rattle.std.proofs.lemmas.Fn.{filter_same}
use Rattle.lsm_model.specs.declared.states.Pin.{Pin}
use Rattle.lsm_model.proofs.LookupLemmas.{without_filtered}
use Rattle.lsm_model.proofs.lookups.drop_pin.Goals as goal

pub returns : goal.returns
returns c =
    filter_same _ (λ (pin : Pin). not (pin.number == c.args.number)) _ (λ x b f' k. search rules) _ _ c.retain.ensures.filtered
    ∙ without_filtered c.args.number c.args.pins.now.items
