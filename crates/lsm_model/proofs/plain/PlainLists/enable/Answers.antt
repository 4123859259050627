use Rattle.lsm_model.specs.Plain.{state_of}
use Rattle.lsm_model.proofs.PlainLemmas.{enabled, enable_none}
use Rattle.lsm_model.proofs.plain.PlainLists.enable.Goals as goal

pub returns-then-self-eq0-clause-step : goal.returns-then-self-eq0-clause-step
returns-then-self-eq0-clause-step c = enable_none (state_of c.args.self.now) c.if-self-eq0.true

pub returns-clause-step : goal.returns-clause-step
returns-clause-step c = enabled (state_of c.args.self.now) c.if-self-eq0.false
