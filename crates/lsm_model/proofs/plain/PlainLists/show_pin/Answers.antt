use Rattle.std.proofs.Common.{ap, ◌∙◌}
use Rattle.lsm_model.specs.States.{pin_of}
use Rattle.lsm_model.proofs.PlainPins.{pin_none, pin_shown}
use Rattle.lsm_model.proofs.plain.PlainLists.show_pin.Goals as goal

pub returns-in-Some : goal.returns-in-Some
returns-in-Some c = pin_shown c.args.self.now c.args.pin c.in-Some.found.now c.shown.result (c.in-Some.ensures ∙ ap (pin_of c.args.pin) c.as_slice.ensures.value) c.shown.ensures

pub returns-in-None : goal.returns-in-None
returns-in-None c = pin_none c.args.self.now c.args.pin (c.in-None.ensures ∙ ap (pin_of c.args.pin) c.as_slice.ensures.value)
