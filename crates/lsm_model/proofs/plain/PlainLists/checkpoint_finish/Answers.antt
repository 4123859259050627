use Rattle.std.proofs.Common.{sym, ap, subst, ◌∙◌, ◌≡◌, false, List}
use Rattle.lsm_model.specs.declared.states.Pin.{Pin}
use Rattle.lsm_model.specs.declared.states.State.{State}
use Rattle.lsm_model.specs.States.{pin_of}
use Rattle.lsm_model.specs.Causes.{is_job}
use Rattle.lsm_model.specs.Plain.{state_of, IsJobOf}
use Rattle.lsm_model.proofs.PlainLemmas.{none_from}
use Rattle.lsm_model.proofs.PlainPins.{finish_none, finish_halted, finish_taken, finish_done, finish_plain}
use Rattle.lsm_model.proofs.plain.PlainLists.checkpoint_finish.Goals as goal

pub returns-in_default-clause-step : goal.returns-in_default-clause-step
returns-in_default-clause-step c = finish_none c.args.self.now c.args.pin (subst (λ (pins : List Pin). is_job (pin_of c.args.pin pins) ≡ false) c.as_slice.ensures.value c.in_default.ensures.none)

pub returns-then-taken-clause-step : goal.returns-then-taken-clause-step
returns-then-taken-clause-step c =
    finish_taken c.args.self.now c.args.pin c.in-Some.job (subst (λ (pins : List Pin). IsJobOf c.in-Some.job (pin_of c.args.pin pins)) c.as_slice.ensures.value c.in-Some.ensures.found)
    (state_of c.end_pin.new.self) (sym (ap (λ (s : State). s.halt) c.end_pin.ensures.state) ∙ none_from c.end_pin.new.self.halt c.in_default-halt.not-Some) (sym c.is_taken-taken.ensures ∙ c.if-taken.true) c.end_pin.ensures.state

pub returns-clause-step : goal.returns-clause-step
returns-clause-step c =
    finish_done c.args.self.now c.args.pin c.in-Some.job (subst (λ (pins : List Pin). IsJobOf c.in-Some.job (pin_of c.args.pin pins)) c.as_slice.ensures.value c.in-Some.ensures.found)
    c.end_pin.new.self (record c.end_pin.new.self { folders = c.push_folder.new.folders }) c.sequence_at-sequence.result (sym (ap (λ (s : State). s.halt) c.end_pin.ensures.state) ∙ none_from c.end_pin.new.self.halt c.in_default-halt.not-Some) (sym c.is_taken-taken.ensures ∙ c.if-taken.false) c.end_pin.ensures.state c.in-Ok.ensures.ok c.sequence_at-sequence.ensures

pub returns-clause-plain : goal.returns-clause-plain
returns-clause-plain c =
    finish_plain c.args.self.now c.args.pin c.in-Some.job (subst (λ (pins : List Pin). IsJobOf c.in-Some.job (pin_of c.args.pin pins)) c.as_slice.ensures.value c.in-Some.ensures.found)
    c.end_pin.new.self (record c.end_pin.new.self { folders = c.push_folder.new.folders }) c.requires c.end_pin.ensures.plain c.end_pin.ensures.state c.in-Ok.ensures.ok

pub returns-in-Some-halt-clause-step : goal.returns-in-Some-halt-clause-step
returns-in-Some-halt-clause-step c =
    finish_halted c.args.self.now c.args.pin c.in-Some.job (subst (λ (pins : List Pin). IsJobOf c.in-Some.job (pin_of c.args.pin pins)) c.as_slice.ensures.value c.in-Some.ensures.found)
    (state_of c.end_pin.new.self) c.in-Some-halt.first (sym (ap (λ (s : State). s.halt) c.end_pin.ensures.state) ∙ c.in-Some-halt.is) c.end_pin.ensures.state
