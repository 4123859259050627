use Rattle.std.proofs.Common.{◌≡◌, ◌++◌, take}
use Rattle.lsm_pick.specs.Standing.{standing}
use Rattle.lsm_pick.specs.Views.{range_in}
use Rattle.lsm_pick.proofs.Steps.{met}
use Rattle.lsm_pick.proofs.going.push_meeting.Given as goal

abbrev pub invariant-loop-place : goal.invariant-loop-place
invariant-loop-place l = l.out ≡ l.fn.out ++ met (range_in l.range) (standing l.version (take l.place-index l.places))
