use Rattle.std.proofs.Common.{ap, ◌∙◌}
use Rattle.lsm_model.specs.States.{pin_of}
use Rattle.lsm_model.proofs.PlainPins.{no_pin_read, no_file_read}
use Rattle.lsm_model.proofs.plain.PlainLists.read_pinned.Goals as goal

pub returns-in-Some : goal.returns-in-Some
returns-in-Some c = no_file_read c.args.self.now c.args.pin c.args.name c.in-Some.field-0.now c.requires (c.in-Some.ensures ∙ ap (pin_of c.args.pin) c.as_slice.ensures.value)

pub returns-in-None : goal.returns-in-None
returns-in-None c = no_pin_read c.args.self.now c.args.pin c.args.name (c.in-None.ensures ∙ ap (pin_of c.args.pin) c.as_slice.ensures.value)
