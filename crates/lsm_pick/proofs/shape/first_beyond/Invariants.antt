use Rattle.std.proofs.Common.{◌≡◌}
use Rattle.lsm_pick.specs.Picked.{first_beyond}
use Rattle.lsm_pick.proofs.Chosen.{beyond_from}
use Rattle.lsm_pick.proofs.shape.first_beyond.Given as goal

abbrev pub invariant-loop-level : goal.invariant-loop-level
invariant-loop-level l = beyond_from l.version l.level ≡ first_beyond l.version
