use Rattle.std.proofs.Common.{rules, ◌≡◌, [], length, ap, ◌∙◌}
use Rattle.turn_lock.specs.Closing.{joined_view}
use Rattle.turn_lock.proofs.Joined.{joined_long, last_may, one_lane_each}
use Rattle.turn_lock.proofs.turn.Turn.gather.Goals as goal

pub join-requires-clause-table : goal.join-requires-clause-table
join-requires-clause-table g c =
    let l = c.loop-pass.invariant in
    let may = last_may c.args.self.now c.args.passes.items c.loop-pass.passes.items _ l.0 c.in-Some-pop.pass c.requires.each l.1 c.in-Some-pop.ensures.items in
    (l.3, may.0)

pub join-requires-clause-idle : goal.join-requires-clause-idle
join-requires-clause-idle g c =
    let l = c.loop-pass.invariant in
    let may = last_may c.args.self.now c.args.passes.items c.loop-pass.passes.items _ l.0 c.in-Some-pop.pass c.requires.each l.1 c.in-Some-pop.ensures.items in
    (l.4, may.1.0)

pub returns-clause-every : goal.returns-clause-every
returns-clause-every g c =
    let is : c.loop-pass.all.seat.me ≡ (joined_view c.args.passes.items, []) = search rules in
    ap (λ m. length m.0.mine) is
    ∙ joined_long c.args.passes.items (one_lane_each c.args.self.now c.args.passes.items c.requires.each) ∙ c.requires.every
