use Rattle.std.proofs.Common.{arith}
use Rattle.lsm_model.specs.Plain.{state_of}
use Rattle.lsm_model.proofs.PlainLemmas.{disabled, disable_full}
use Rattle.lsm_model.proofs.plain.PlainLists.disable.Goals as goal

pub returns-then-self-ge-DISABLE_LIMIT-clause-step : goal.returns-then-self-ge-DISABLE_LIMIT-clause-step
returns-then-self-ge-DISABLE_LIMIT-clause-step c = disable_full (state_of c.args.self.now) (omega (arith, c.if-self-ge-DISABLE_LIMIT.true))

pub returns-clause-step : goal.returns-clause-step
returns-clause-step c = disabled (state_of c.args.self.now) (omega (arith, c.if-self-ge-DISABLE_LIMIT.false))
