use Rattle.std.proofs.Common.{◌≤◌, length, drop}
use Rattle.lsm_changes.specs.Replay.{changes, Quiet}
use Rattle.lsm_changes.proofs.history.kept_steps.Given as goal

abbrev pub invariant-loop-turn : goal.invariant-loop-turn
invariant-loop-turn l = record {
  within : l.count ≤ length l.steps;
  quiet : Quiet (drop l.count (changes l.steps));
}
