use Rattle.lsm_model.proofs.PlainLemmas.{none_from, no_compaction}
use Rattle.lsm_model.specs.Plain.{state_of}
use Rattle.lsm_model.proofs.PlainHalts.{merge_halted}
use Rattle.lsm_model.proofs.plain.PlainLists.compact_step.Goals as goal

pub returns : goal.returns
returns c = λ rows. no_compaction c.args.self.now rows (none_from c.args.self.now.halt c.in_default.not-Some)

pub returns-in-Some : goal.returns-in-Some
returns-in-Some c = merge_halted (state_of c.args.self.now) c.in-Some.first c.in-Some.is
