use Rattle.std.proofs.Common.{arith}
use Rattle.lsm_model.proofs.PlainLemmas.{none_from, none_active, frozen_already, no_number, froze}
use Rattle.lsm_model.specs.Plain.{state_of}
use Rattle.lsm_model.proofs.PlainHalts.{freeze_halted}
use Rattle.lsm_model.proofs.plain.PlainLists.freeze.Goals as goal

pub returns-then-self-eq0-clause-step : goal.returns-then-self-eq0-clause-step
returns-then-self-eq0-clause-step c = none_active c.args.self.now (none_from c.args.self.now.halt c.in_default.not-Some) c.if-self-eq0.true

pub returns-then-self-gt0-clause-step : goal.returns-then-self-gt0-clause-step
returns-then-self-gt0-clause-step c = frozen_already c.args.self.now (none_from c.args.self.now.halt c.in_default.not-Some) (λ e. absurd (omega (arith, e, c.if-self-gt0.true)))

pub returns-then-self-ge-NUMBER_END-clause-step : goal.returns-then-self-ge-NUMBER_END-clause-step
returns-then-self-ge-NUMBER_END-clause-step c = no_number c.args.self.now (none_from c.args.self.now.halt c.in_default.not-Some) c.if-self-eq0.false (omega (arith, c.if-self-gt0.false)) (omega (arith, c.if-self-ge-NUMBER_END.true))

pub returns-clause-step : goal.returns-clause-step
returns-clause-step c = froze c.args.self.now c.requires (none_from c.args.self.now.halt c.in_default.not-Some) c.if-self-eq0.false (omega (arith, c.if-self-gt0.false)) (omega (arith, c.if-self-ge-NUMBER_END.false))

pub returns-in-Some-clause-step : goal.returns-in-Some-clause-step
returns-in-Some-clause-step c = freeze_halted (state_of c.args.self.now) c.in-Some.first c.in-Some.is
