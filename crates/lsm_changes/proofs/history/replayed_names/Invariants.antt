use Rattle.std.proofs.Common.{◌≡◌, take, drop}
use Rattle.lsm_changes.specs.Replay.{replayed, changes}
use Rattle.lsm_changes.proofs.history.replayed_names.Given as goal

abbrev pub invariant-loop-at : goal.invariant-loop-at
invariant-loop-at l = replayed (changes (drop l.at (take l.count l.steps))) l.made l.now ≡ replayed (changes (take l.count l.steps)) l.files l.fn.names
