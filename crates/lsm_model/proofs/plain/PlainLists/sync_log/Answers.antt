use Rattle.std.proofs.Common.{ap, length}
use Rattle.lsm_model.proofs.PlainLemmas.{none_from, synced}
use Rattle.lsm_model.specs.Plain.{state_of}
use Rattle.lsm_model.proofs.PlainHalts.{sync_halted}
use Rattle.lsm_model.proofs.plain.PlainLists.sync_log.Goals as goal

pub returns-clause-step : goal.returns-clause-step
returns-clause-step c = synced c.args.self.now (length c.as_slice.result.now) (none_from c.args.self.now.halt c.in_default.not-Some) (ap length c.as_slice.ensures.value)

pub returns-in-Some-clause-step : goal.returns-in-Some-clause-step
returns-in-Some-clause-step c = sync_halted (state_of c.args.self.now) c.in-Some.first c.in-Some.is
