use Rattle.std.proofs.Common.{rules}
use Rattle.lsm_version.proofs.Overlaps.{past_other}
use Rattle.lsm_version.proofs.version.first_overlap.Goals as goal

pub loop-number-preserved : goal.loop-number-preserved
loop-number-preserved c = search (rules, past_other)
