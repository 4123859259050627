use Rattle.std.proofs.Common.{arith}
use Rattle.lsm_io.proofs.Fronts.{given_ahead}
use Rattle.lsm_io.proofs.adapters.Buffered.give.Goals as goal

pub returns-clause-bytes : goal.returns-clause-bytes
returns-clause-bytes g c below =
    given_ahead c.args.self.now.buffer c.args.into.now c.copy_from_slice.new.self c.args.self.now.at c.args.self.now.end c.min-count.result below (omega arith) (omega arith) c.copy_from_slice.ensures.after
