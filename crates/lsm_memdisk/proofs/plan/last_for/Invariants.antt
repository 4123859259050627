use Rattle.std.proofs.Common.{◌≡◌, take}
use Rattle.lsm_memdisk.specs.Plan.{last_for}
use Rattle.lsm_memdisk.proofs.plan.last_for.Given as goal

abbrev pub invariant-loop-at : goal.invariant-loop-at
invariant-loop-at l = l.found ≡ last_for l.call (take l.at l.entries)
