use Rattle.std.proofs.Common.{◌≡◌, take}
use Rattle.std.specs.List.{fold}
use Rattle.lsm_pick.specs.Standing.{standing}
use Rattle.lsm_pick.proofs.Steps.{saturated}
use Rattle.lsm_pick.proofs.shape.level_bytes.Given as goal

abbrev pub invariant-loop-place : goal.invariant-loop-place
invariant-loop-place l = l.bytes ≡ fold saturated 0 (standing l.version (take l.place-index l.places))
