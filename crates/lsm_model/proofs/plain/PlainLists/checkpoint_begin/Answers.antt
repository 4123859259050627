use Rattle.std.proofs.Common.{arith, refl, ap, sym, ◌∙◌, length}
use Rattle.lsm_model.specs.declared.states.State.{State}
use Rattle.lsm_model.specs.Causes.{builds}
use Rattle.lsm_model.specs.Plain.{state_of}
use Rattle.lsm_model.proofs.PlainLemmas.{none_from}
use Rattle.lsm_model.proofs.PlainPins.{begin_built, begin_full, begun_now, cuts_flushed, cuts_as_is, size_flushes, still_reaches}
use Rattle.lsm_model.proofs.PlainHalts.{checkpoint_halted}
use Rattle.lsm_model.proofs.plain.PlainLists.checkpoint_begin.Goals as goal

pub returns-then-is_built-clause-step : goal.returns-then-is_built-clause-step
returns-then-is_built-clause-step c =
    begin_built c.args.self.now c.args.dir c.args.log_size_for_flush (none_from c.args.self.now.halt c.in_default.not-Some) (sym (c.is_built.ensures ∙ ap (builds c.args.dir) c.as_slice.ensures.value) ∙ c.if-is_built.true)

pub returns-then-as_slice-ge-PIN_LIMIT-clause-step : goal.returns-then-as_slice-ge-PIN_LIMIT-clause-step
returns-then-as_slice-ge-PIN_LIMIT-clause-step c =
    begin_full c.args.self.now c.args.dir c.args.log_size_for_flush (none_from c.args.self.now.halt c.in_default.not-Some) (sym (c.is_built.ensures ∙ ap (builds c.args.dir) c.as_slice.ensures.value) ∙ c.if-is_built.false)
    (omega (arith, c.requires.few, c.if-as_slice-ge-PIN_LIMIT.true, ap length c.as_slice-2.ensures.value))

pub returns-then-reaches-clause-step : goal.returns-then-reaches-clause-step
returns-then-reaches-clause-step c =
    begun_now c.args.self.now (state_of (record c.add_pin.new.self { active = 0; frozen = 0; active_len = 0; frozen_len = 0 })) (state_of (record c.args.self.now { active = 0; frozen = 0; active_len = 0; frozen_len = 0 })) c.args.dir c.args.log_size_for_flush
    (record { pin = c.in-Ok.pin; sequence = c.args.self.now.sequence }) c.requires (none_from c.args.self.now.halt c.in_default.not-Some)
    (sym (c.is_built.ensures ∙ ap (builds c.args.dir) c.as_slice.ensures.value) ∙ c.if-is_built.false)
    (omega (arith, c.if-as_slice-ge-PIN_LIMIT.false, ap length c.as_slice-2.ensures.value))
    (sym c.is_taken.ensures ∙ c.if-is_taken.false)
    (cuts_flushed c.args.self.now _ c.requires
    (size_flushes c.args.self.now c.args.log_size_for_flush
    ∙ still_reaches c.args.self.now c.add_pin.new.self _ c.args.log_size_for_flush c.reaches.result c.in-Ok.ensures.ok c.reaches.ensures ∙ c.if-reaches.true))
    (ap (λ (s : State). record s { active = 0; frozen = 0; active_len = 0; frozen_len = 0 }) c.in-Ok.ensures.ok) c.in-Ok.ensures.number refl

pub returns-clause-step : goal.returns-clause-step
returns-clause-step c =
    begun_now c.args.self.now (state_of c.add_pin.new.self) (state_of c.args.self.now) c.args.dir c.args.log_size_for_flush
    (record { pin = c.in-Ok.pin; sequence = c.args.self.now.sequence }) c.requires (none_from c.args.self.now.halt c.in_default.not-Some)
    (sym (c.is_built.ensures ∙ ap (builds c.args.dir) c.as_slice.ensures.value) ∙ c.if-is_built.false)
    (omega (arith, c.if-as_slice-ge-PIN_LIMIT.false, ap length c.as_slice-2.ensures.value))
    (sym c.is_taken.ensures ∙ c.if-is_taken.false)
    (cuts_as_is c.args.self.now _
    (size_flushes c.args.self.now c.args.log_size_for_flush
    ∙ still_reaches c.args.self.now c.add_pin.new.self _ c.args.log_size_for_flush c.reaches.result c.in-Ok.ensures.ok c.reaches.ensures ∙ c.if-reaches.false))
    c.in-Ok.ensures.ok c.in-Ok.ensures.number refl

pub returns-in-Some-clause-step : goal.returns-in-Some-clause-step
returns-in-Some-clause-step c = checkpoint_halted (state_of c.args.self.now) c.in-Some.first c.in-Some.is c.args.dir c.args.log_size_for_flush
