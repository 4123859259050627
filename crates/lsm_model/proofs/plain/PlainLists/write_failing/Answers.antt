use Rattle.std.proofs.Common.{arith}
use Rattle.lsm_model.specs.Plain.{state_of}
use Rattle.lsm_model.proofs.PlainHalts.{write_halted}
use Rattle.lsm_model.proofs.PlainLemmas.{sequence_is_full, none_from}
use Rattle.lsm_model.proofs.plain.PlainLists.write_failing.Goals as goal

pub returns-in-Some-clause-step : goal.returns-in-Some-clause-step
returns-in-Some-clause-step c = write_halted (state_of c.args.self.now) c.in-Some.first c.in-Some.is c.args.batch

pub returns-then-self-count-gt-LAST_SEQUENCE-clause-step : goal.returns-then-self-count-gt-LAST_SEQUENCE-clause-step
returns-then-self-count-gt-LAST_SEQUENCE-clause-step c = λ sync.
    sequence_is_full c.args.self.now c.args.batch sync c.len-count.result c.requires (none_from c.args.self.now.halt c.in_default.not-Some) c.len-count.ensures.len (omega (arith, c.if-self-count-gt-LAST_SEQUENCE.true))
