use Rattle.std.specs.Prelude.{◌≡◌, filter, take}
use Rattle.std.specs.FinMap as finmap
use Rattle.lsm_core.specs.Searching.{has_in_range}
use Rattle.lsm_core.proofs.searching.looked_at.Given as goal

abbrev pub invariant-loop-place : goal.invariant-loop-place
invariant-loop-place l =
    l.places ≡ filter (λ place. has_in_range l.key (finmap.get l.version place.number)) (take l.place-index l.place-items)
