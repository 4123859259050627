use Rattle.std.proofs.Common.{arith, true}
use Rattle.std.proofs.lemmas.Bool.Decides.{nat_tests}
use Rattle.lsm_compact.proofs.Stages.{counted_full, counted_open}
use Rattle.lsm_compact.proofs.outputs.Outputs.is_to_end.Goals as goal

pub returns-in-Open-clause-yes : goal.returns-in-Open-clause-yes
returns-in-Open-clause-yes c = λ yes.
    counted_full true c.in-Open.table c.in-Open.piece c.in-Open.ended c.args.self.now.stage c.in-Open.is c.requires
    (grind (arith, nat_tests, yes))

pub returns-in-Open-clause-no : goal.returns-in-Open-clause-no
returns-in-Open-clause-no c = λ no.
    counted_open true c.in-Open.table c.in-Open.piece c.in-Open.ended c.args.self.now.stage c.in-Open.is c.requires
    (grind (arith, nat_tests, no))
