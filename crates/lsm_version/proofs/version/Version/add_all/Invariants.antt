use Rattle.std.proofs.Common.{◌≡◌, take, Some}
use Rattle.std.specs.List.{fold}
use Rattle.lsm_version.specs.Versions.{added}
use Rattle.lsm_version.proofs.version.Version.add_all.Given as goal

abbrev pub invariant-loop-add : goal.invariant-loop-add
invariant-loop-add l = fold added (Some l.fn.self) (take l.add-index l.adds) ≡ Some l.self
