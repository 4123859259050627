use Rattle.std.proofs.Common.{rules, ◌∙◌, []}
use Rattle.turn_lock.specs.Views.{idle}
use Rattle.turn_lock.proofs.Gave.{gave_lane, gave_start, gave_free, gave_seen, gave_own}
use Rattle.turn_lock.proofs.turn.Turn.give.Goals as goal

pub returns-clause-same : goal.returns-clause-same
returns-clause-same g c =
    let is = c.put.ensures.me ∙ (λ i. (idle (c.enter.ensures.me i).0, [])) in
    (search rules, gave_lane c.args.pass.now c.put.new.pass g.B.Entered.entry c.args.entered is, gave_start c.args.pass.now c.put.new.pass g.B.Entered.entry c.args.entered is)

pub returns-clause-free : goal.returns-clause-free
returns-clause-free g c =
    gave_free c.args.pass.now c.put.new.pass g.B.Entered.entry c.args.entered (c.put.ensures.me
    ∙ (λ i. (idle (c.enter.ensures.me i).0, []))) c.requires.held.0

pub returns-clause-seen : goal.returns-clause-seen
returns-clause-seen g c =
    gave_seen c.args.pass.now c.put.new.pass g.B.Entered.entry c.args.entered (c.put.ensures.me
    ∙ (λ i. (idle (c.enter.ensures.me i).0, [])))

pub returns-clause-own : goal.returns-clause-own
returns-clause-own g c =
    gave_own c.args.pass.now c.put.new.pass g.B.Entered.entry c.args.entered (c.put.ensures.me
    ∙ (λ i. (idle (c.enter.ensures.me i).0, []))) c.requires.held.0
