use Rattle.std.proofs.Common.{◌≡◌, take}
use Rattle.lsm_compact.proofs.compaction.drops_of.Given as goal

abbrev pub invariant-loop-place : goal.invariant-loop-place
invariant-loop-place l = l.drops ≡ take l.place-index l.places
