use Rattle.std.proofs.Common.{arith, sym, ap, subst, ◌∙◌, length, Ok}
use Rattle.lsm_model.specs.declared.states.State.{State}
use Rattle.lsm_model.specs.declared.cuts.FlushRule.{FlushRule}
use Rattle.lsm_model.specs.declared.cuts.FlushRule.TheVariants.{Never, Always, AtLeast}
use Rattle.lsm_model.specs.Pins.{Cuts}
use Rattle.lsm_model.specs.Plain.{state_of}
use Rattle.lsm_model.proofs.PlainLemmas.{none_from, cut_now, no_room, flushed_now, same_state}
use Rattle.lsm_model.proofs.PlainPins.{cuts_flushed, cuts_as_is, still_reaches}
use Rattle.lsm_model.proofs.PlainHalts.{cut_halted}
use Rattle.lsm_model.proofs.plain.PlainLists.cut.Goals as goal

pub returns-then-as_slice-ge-PIN_LIMIT-clause-step : goal.returns-then-as_slice-ge-PIN_LIMIT-clause-step
returns-then-as_slice-ge-PIN_LIMIT-clause-step c = no_room c.args.self.now c.args.rule (none_from c.args.self.now.halt c.in_default.not-Some) (omega (arith, c.requires.few, c.if-as_slice-ge-PIN_LIMIT.true, ap length c.as_slice.ensures.value))

pub returns-in-Never-clause-step : goal.returns-in-Never-clause-step
returns-in-Never-clause-step c = subst (λ (by : FlushRule). Cuts (state_of c.args.self.now) by (Ok c.cut_of.result) (state_of c.add_pin.new.self)) (sym c.in-Never.is)
    (cut_now c.args.self.now (state_of c.add_pin.new.self) Never c.cut_of.result (state_of c.args.self.now) c.requires (none_from c.args.self.now.halt c.in_default.not-Some) (omega (arith, c.if-as_slice-ge-PIN_LIMIT.false, ap length c.as_slice.ensures.value)) (same_state (state_of c.args.self.now)) c.in-Ok.ensures.ok (c.cut_of.ensures.pin ∙ c.in-Ok.ensures.number) c.cut_of.ensures.sequence c.cut_of.ensures.manifest c.cut_of.ensures.files)

pub returns-in-Always-clause-step : goal.returns-in-Always-clause-step
returns-in-Always-clause-step c = subst (λ (by : FlushRule). Cuts (state_of c.args.self.now) by (Ok c.cut_of-in-Always.result) (state_of (record c.add_pin.new.self { active = 0; frozen = 0; active_len = 0; frozen_len = 0 }))) (sym c.in-Always.is)
    (cut_now c.args.self.now (state_of (record c.add_pin.new.self { active = 0; frozen = 0; active_len = 0; frozen_len = 0 })) Always c.cut_of-in-Always.result (state_of (record c.args.self.now { active = 0; frozen = 0; active_len = 0; frozen_len = 0 })) c.requires (none_from c.args.self.now.halt c.in_default.not-Some) (omega (arith, c.if-as_slice-ge-PIN_LIMIT.false, ap length c.as_slice.ensures.value)) (flushed_now c.args.self.now c.requires) (ap (λ (s : State). record s { active = 0; frozen = 0; active_len = 0; frozen_len = 0 }) c.in-Ok.ensures.ok) (c.cut_of-in-Always.ensures.pin ∙ c.in-Ok.ensures.number) c.cut_of-in-Always.ensures.sequence c.cut_of-in-Always.ensures.manifest c.cut_of-in-Always.ensures.files)

pub returns-then-reaches-clause-step : goal.returns-then-reaches-clause-step
returns-then-reaches-clause-step c =
    subst (λ (by : FlushRule). Cuts (state_of c.args.self.now) by (Ok c.cut_of-then-reaches.result) (state_of (record c.add_pin.new.self { active = 0; frozen = 0; active_len = 0; frozen_len = 0 }))) (sym c.in-AtLeast.is)
    (cut_now c.args.self.now (state_of (record c.add_pin.new.self { active = 0; frozen = 0; active_len = 0; frozen_len = 0 })) (AtLeast c.in-AtLeast.bytes) c.cut_of-then-reaches.result (state_of (record c.args.self.now { active = 0; frozen = 0; active_len = 0; frozen_len = 0 })) c.requires (none_from c.args.self.now.halt c.in_default.not-Some)
    (omega (arith, c.if-as_slice-ge-PIN_LIMIT.false, ap length c.as_slice.ensures.value))
    (cuts_flushed c.args.self.now _ c.requires (still_reaches c.args.self.now c.add_pin.new.self _ c.in-AtLeast.bytes c.reaches.result c.in-Ok.ensures.ok c.reaches.ensures ∙ c.if-reaches.true))
    (ap (λ (s : State). record s { active = 0; frozen = 0; active_len = 0; frozen_len = 0 }) c.in-Ok.ensures.ok) (c.cut_of-then-reaches.ensures.pin ∙ c.in-Ok.ensures.number) c.cut_of-then-reaches.ensures.sequence c.cut_of-then-reaches.ensures.manifest c.cut_of-then-reaches.ensures.files)

pub returns-else-reaches-clause-step : goal.returns-else-reaches-clause-step
returns-else-reaches-clause-step c =
    subst (λ (by : FlushRule). Cuts (state_of c.args.self.now) by (Ok c.cut_of-in-AtLeast.result) (state_of c.add_pin.new.self)) (sym c.in-AtLeast.is)
    (cut_now c.args.self.now (state_of c.add_pin.new.self) (AtLeast c.in-AtLeast.bytes) c.cut_of-in-AtLeast.result (state_of c.args.self.now) c.requires (none_from c.args.self.now.halt c.in_default.not-Some)
    (omega (arith, c.if-as_slice-ge-PIN_LIMIT.false, ap length c.as_slice.ensures.value))
    (cuts_as_is c.args.self.now _ (still_reaches c.args.self.now c.add_pin.new.self _ c.in-AtLeast.bytes c.reaches.result c.in-Ok.ensures.ok c.reaches.ensures ∙ c.if-reaches.false))
    c.in-Ok.ensures.ok (c.cut_of-in-AtLeast.ensures.pin ∙ c.in-Ok.ensures.number) c.cut_of-in-AtLeast.ensures.sequence c.cut_of-in-AtLeast.ensures.manifest c.cut_of-in-AtLeast.ensures.files)

pub returns-in-Some-clause-step : goal.returns-in-Some-clause-step
returns-in-Some-clause-step c = cut_halted (state_of c.args.self.now) c.in-Some.first c.in-Some.is c.args.rule
