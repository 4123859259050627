use Rattle.std.proofs.Common.{◌≡◌, take, Some}
use Rattle.std.specs.List.{fold}
use Rattle.lsm_version.specs.Versions.{dropped}
use Rattle.lsm_version.proofs.version.Version.drop_all.Given as goal

abbrev pub invariant-loop-place : goal.invariant-loop-place
invariant-loop-place l = fold dropped (Some l.fn.self) (take l.place-index l.places) ≡ Some l.self
