use Rattle.lsm_model.proofs.PlainLemmas.{none_from, nothing_to_compact}
use Rattle.lsm_model.specs.Plain.{state_of}
use Rattle.lsm_model.proofs.PlainHalts.{compact_halted}
use Rattle.lsm_model.proofs.plain.PlainLists.compact_begin.Goals as goal

pub returns-in-Shape : goal.returns-in-Shape
returns-in-Shape c = nothing_to_compact c.args.self.now c.args.which (none_from c.args.self.now.halt c.in_default.not-Some)

pub returns-in-All : goal.returns-in-All
returns-in-All c = nothing_to_compact c.args.self.now c.args.which (none_from c.args.self.now.halt c.in_default.not-Some)

pub returns-in-Some : goal.returns-in-Some
returns-in-Some c = compact_halted (state_of c.args.self.now) c.in-Some.first c.in-Some.is c.args.which
