use Rattle.std.proofs.Common.{◌≡◌, ◌++◌, ◌-◌, length, take}
use Rattle.lsm_io.specs.Session.{digits}
use Rattle.lsm_io.proofs.host.write_digits.Given as goal

-- the digits that are written, and those of what is left, are those of the number
abbrev pub invariant-loop-place : goal.invariant-loop-place
invariant-loop-place l = take l.place-index l.into ++ digits (length l.into - l.place-index) l.rest ≡ digits (length l.into) l.number
