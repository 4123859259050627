use Rattle.std.proofs.Common.{◌≡◌, ◌++◌, ◌<◌, List, length, []}
use Rattle.turn_lock.specs.Steps.{IsIdle}
use Rattle.turn_lock.specs.Passes.{IsPassOf}
use Rattle.turn_lock.specs.Closing.{joined_view}
use Rattle.turn_lock.proofs.turn.Turn.gather.Given as goal

-- the passes that are left, and those that were joined
abbrev pub invariant-loop-pass : goal.invariant-loop-pass
invariant-loop-pass g l =
    (behind : List _) × (l.fn.passes.items ≡ l.passes.items ++ behind) × (0 < length behind)
    × IsPassOf l.fn.self l.all × IsIdle l.all.seat.me × (l.all.seat.me ≡ (joined_view behind, []))

abbrev pub decreases-loop-pass : goal.decreases-loop-pass
decreases-loop-pass g l = length l.passes.items
