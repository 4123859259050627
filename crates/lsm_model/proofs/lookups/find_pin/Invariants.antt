use Rattle.std.proofs.Common.{◌≡◌, drop}
use Rattle.lsm_model.specs.States.{pin_of}
use Rattle.lsm_model.proofs.lookups.find_pin.Given as goal

abbrev pub invariant-loop-pin : goal.invariant-loop-pin
invariant-loop-pin l = pin_of l.number (drop l.pin-index l.pins) ≡ pin_of l.number l.pins
