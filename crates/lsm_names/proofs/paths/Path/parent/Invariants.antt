use Rattle.std.proofs.Common.{◌≡◌, ◌≤◌, drop, length, None}
use Rattle.lsm_names.specs.Paths.{cut_last}
use Rattle.lsm_names.proofs.paths.Path.parent.Given as goal

-- no slash was passed
abbrev pub invariant-loop-end : goal.invariant-loop-end
invariant-loop-end l = (cut_last (drop l.end l.path) ≡ None) × (l.end ≤ length l.path)

abbrev pub decreases-loop-end : goal.decreases-loop-end
decreases-loop-end l = l.end
