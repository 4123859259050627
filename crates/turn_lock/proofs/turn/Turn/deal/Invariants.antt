use Rattle.std.proofs.Common.{◌≡◌, ◌+◌, ◌-◌, ◌≤◌, length, []}
use Rattle.std.specs.Vec.{vec_capacity}
use Rattle.turn_lock.specs.Views.{begun}
use Rattle.turn_lock.specs.Passes.{IsPassOf, AreNew}
use Rattle.turn_lock.proofs.turn.Turn.deal.Given as goal

-- so many passes are dealt, and the rest has the lanes from the next number on
abbrev pub invariant-loop-lane : goal.invariant-loop-lane
invariant-loop-lane g l =
    (length l.list.items + 1 ≡ l._lane) × (l.fn.passes ≤ vec_capacity l.list) × IsPassOf l.fn.self l.rest
    × (l.rest.seat.me ≡ (begun (length l.list.items) (l.fn.passes - length l.list.items) g.S.Begun.start, []))
    × AreNew l.fn.self g.S.Begun.start l.list.items
