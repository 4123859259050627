use Rattle.std.proofs.Common.{◌≡◌, take}
use Rattle.std.specs.Prelude.{false}
use Rattle.lsm_core.specs.Obsolete.{are_holding}
use Rattle.lsm_core.proofs.pins.are_holding.Given as goal

abbrev pub invariant-loop-pin : goal.invariant-loop-pin
invariant-loop-pin l = are_holding (take l.pin-index l.pins) l.name ≡ false
