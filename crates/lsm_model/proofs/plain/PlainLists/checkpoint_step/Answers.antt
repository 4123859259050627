use Rattle.std.proofs.Common.{subst, ◌≡◌, false, List}
use Rattle.lsm_model.specs.declared.states.Pin.{Pin}
use Rattle.lsm_model.specs.States.{pin_of}
use Rattle.lsm_model.specs.Causes.{is_job}
use Rattle.lsm_model.specs.Plain.{IsJobOf}
use Rattle.lsm_model.proofs.PlainLemmas.{none_from}
use Rattle.lsm_model.proofs.PlainPins.{step_none, step_halted, stepped_now}
use Rattle.lsm_model.proofs.plain.PlainLists.checkpoint_step.Goals as goal

pub returns-in_default : goal.returns-in_default
returns-in_default c = step_none c.args.self.now c.args.pin (subst (λ (pins : List Pin). is_job (pin_of c.args.pin pins) ≡ false) c.as_slice.ensures.value c.in_default.ensures.none)

pub returns-in-Some-halt : goal.returns-in-Some-halt
returns-in-Some-halt c =
    step_halted c.args.self.now c.args.pin c.in-Some.job c.in-Some-halt.first (subst (λ (pins : List Pin). IsJobOf c.in-Some.job (pin_of c.args.pin pins)) c.as_slice.ensures.value c.in-Some.ensures.found) c.in-Some-halt.is

pub returns : goal.returns
returns c =
    stepped_now c.args.self.now c.args.pin c.in-Some.job (subst (λ (pins : List Pin). IsJobOf c.in-Some.job (pin_of c.args.pin pins)) c.as_slice.ensures.value c.in-Some.ensures.found)
    (none_from c.args.self.now.halt c.in_default-halt.not-Some)
