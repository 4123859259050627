use Rattle.std.proofs.Common.{◌≡◌, take}
use Rattle.std.specs.List.{flat_map}
use Rattle.lsm_compact.specs.Ranges.{ranges_at}
use Rattle.lsm_compact.proofs.deeper.Deeper.new.Given as goal

abbrev pub invariant-loop-place : goal.invariant-loop-place
invariant-loop-place l = l.deeper ≡ flat_map (ranges_at l.version l.choice) (take l.place-index l.place-items)
