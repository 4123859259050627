use Rattle.std.proofs.Common.{sym, ap, ◌∙◌, List}
use Rattle.lsm_model.specs.declared.states.Pin.{Pin}
use Rattle.lsm_model.specs.States.{pin_of}
use Rattle.lsm_model.specs.Causes.{is_own}
use Rattle.lsm_model.specs.Plain.{state_of}
use Rattle.lsm_model.proofs.PlainPins.{unpin_none, unpinned_now}
use Rattle.lsm_model.proofs.plain.PlainLists.unpin.Goals as goal

pub returns-then-has_own-clause-step : goal.returns-then-has_own-clause-step
returns-then-has_own-clause-step c =
    unpinned_now c.args.self.now (state_of c.end_pin.new.self) c.args.pin (sym (c.has_own.ensures ∙ ap (λ (pins : List Pin). is_own (pin_of c.args.pin pins)) c.as_slice.ensures.value) ∙ c.if-has_own.true) c.end_pin.ensures.state

pub returns-clause-step : goal.returns-clause-step
returns-clause-step c = unpin_none c.args.self.now c.args.pin (sym (c.has_own.ensures ∙ ap (λ (pins : List Pin). is_own (pin_of c.args.pin pins)) c.as_slice.ensures.value) ∙ c.if-has_own.false)
