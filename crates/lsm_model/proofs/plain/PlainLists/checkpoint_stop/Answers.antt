use Rattle.std.proofs.Common.{subst, ◌≡◌, false, List}
use Rattle.lsm_model.specs.declared.states.Pin.{Pin}
use Rattle.lsm_model.specs.States.{pin_of}
use Rattle.lsm_model.specs.Causes.{is_job}
use Rattle.lsm_model.specs.Plain.{state_of, IsJobOf}
use Rattle.lsm_model.proofs.PlainPins.{stop_none, stopped_now}
use Rattle.lsm_model.proofs.plain.PlainLists.checkpoint_stop.Goals as goal

pub returns-in-Some-clause-step : goal.returns-in-Some-clause-step
returns-in-Some-clause-step c = stopped_now c.args.self.now (state_of c.end_pin.new.self) c.args.pin c.in-Some.field-0 (subst (λ (pins : List Pin). IsJobOf c.in-Some.field-0 (pin_of c.args.pin pins)) c.as_slice.ensures.value c.in-Some.ensures.found) c.end_pin.ensures.state

pub returns-in-None-clause-step : goal.returns-in-None-clause-step
returns-in-None-clause-step c = stop_none c.args.self.now c.args.pin (subst (λ (pins : List Pin). is_job (pin_of c.args.pin pins) ≡ false) c.as_slice.ensures.value c.in-None.ensures.none)
