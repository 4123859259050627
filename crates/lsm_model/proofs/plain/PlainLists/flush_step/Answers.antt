use Rattle.lsm_model.proofs.PlainLemmas.{none_from, none_frozen, all_flushed}
use Rattle.lsm_model.specs.Plain.{state_of}
use Rattle.lsm_model.proofs.PlainHalts.{flush_halted}
use Rattle.lsm_model.proofs.plain.PlainLists.flush_step.Goals as goal

pub returns-then-self-eq0-clause-step : goal.returns-then-self-eq0-clause-step
returns-then-self-eq0-clause-step c = none_frozen c.args.self.now (none_from c.args.self.now.halt c.in_default.not-Some) c.if-self-eq0.true

pub returns-clause-step : goal.returns-clause-step
returns-clause-step c = all_flushed c.args.self.now c.requires (none_from c.args.self.now.halt c.in_default.not-Some) c.if-self-eq0.false

pub returns-in-Some-clause-step : goal.returns-in-Some-clause-step
returns-in-Some-clause-step c = flush_halted (state_of c.args.self.now) c.in-Some.first c.in-Some.is
