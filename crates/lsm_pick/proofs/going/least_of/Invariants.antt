use Rattle.std.proofs.Common.{◌≡◌, take, None, option_map}
use Rattle.std.specs.List.{fold}
use Rattle.lsm_pick.specs.Standing.{standing, with_lesser}
use Rattle.lsm_pick.specs.Views.{table_in}
use Rattle.lsm_pick.proofs.going.least_of.Given as goal

abbrev pub invariant-loop-place : goal.invariant-loop-place
invariant-loop-place l = option_map table_in l.least ≡ fold with_lesser None (standing l.version (take l.place-index l.places))
