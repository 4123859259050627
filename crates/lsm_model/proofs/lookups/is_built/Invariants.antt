use Rattle.std.proofs.Common.{◌≡◌, drop}
use Rattle.lsm_model.specs.Causes.{builds}
use Rattle.lsm_model.proofs.lookups.is_built.Given as goal

abbrev pub invariant-loop-pin : goal.invariant-loop-pin
invariant-loop-pin l = builds l.dir (drop l.pin-index l.pins) ≡ builds l.dir l.pins
