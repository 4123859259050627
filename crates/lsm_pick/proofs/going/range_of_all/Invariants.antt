use Rattle.std.proofs.Common.{◌≡◌, take, None, option_map}
use Rattle.std.specs.List.{fold}
use Rattle.lsm_pick.specs.Standing.{standing}
use Rattle.lsm_pick.specs.Views.{range_in}
use Rattle.lsm_pick.proofs.Steps.{widened_by}
use Rattle.lsm_pick.proofs.going.range_of_all.Given as goal

abbrev pub invariant-loop-place : goal.invariant-loop-place
invariant-loop-place l = option_map range_in l.range ≡ fold widened_by None (standing l.version (take l.place-index l.places))
