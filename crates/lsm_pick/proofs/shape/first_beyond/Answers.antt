use Rattle.std.proofs.Common.{rules}
use Rattle.lsm_pick.proofs.Chosen.{next_level}
use Rattle.lsm_pick.proofs.shape.first_beyond.Goals as goal

pub loop-level-preserved : goal.loop-level-preserved
loop-level-preserved c =
    next_level c.args.version.now c.loop-level.level _ c.loop-level-test.true (search rules) c.loop-level.invariant
