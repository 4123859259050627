use Rattle.std.proofs.Common.{rules, ◌≡◌, ◌+◌, ◌-◌, ◌<◌, length, arith}
use Rattle.turn_lock.proofs.Dealt.{begun_long, deals_more, deals_one, deals_rest, deals_last}
use Rattle.turn_lock.proofs.turn.Turn.deal.Goals as goal

pub split-next-requires-clause-lanes : goal.split-next-requires-clause-lanes
split-next-requires-clause-lanes g c =
    let l = c.loop-lane.invariant in let a = l.0 in let b = c.loop-lane-test.true in
    let long = begun_long (length c.loop-lane.list.items) (c.args.passes - length c.loop-lane.list.items) g.S.Begun.start c.loop-lane.rest.seat.me.0 (λ i. (l.3 i).0) in
    omega arith

pub loop-lane-preserved : goal.loop-lane-preserved
loop-lane-preserved g c =
    let l = c.loop-lane.invariant in let a = l.0 in let b = c.loop-lane-test.true in
    let n = length c.loop-lane.list.items in
    let grown : length c.push_reserved.new.self.items ≡ length c.loop-lane.list.items + 1 = search rules in
    let less : length c.loop-lane.list.items < c.args.passes = omega arith in (
      omega arith,
      search rules,
      c.split-next.ensures.same.0,
      deals_rest n c.args.passes (length c.push_reserved.new.self.items) g.S.Begun.start c.loop-lane.rest.seat.me c.split-next.new.pass.seat.me l.3 c.split-next.ensures.left less grown,
      deals_more c.args.self.now g.S.Begun.start c.loop-lane.list.items c.push_reserved.new.self.items c.split-next.result l.4 c.split-next.ensures.same.1
          (deals_one n c.args.passes g.S.Begun.start c.loop-lane.rest.seat.me c.split-next.result.seat.me l.3 c.split-next.ensures.right less) c.push_reserved.ensures.items,
    )

pub returns-clause-dealt : goal.returns-clause-dealt
returns-clause-dealt g c =
    let l = c.loop-lane.invariant in
    let end : length c.loop-lane.list.items + 1 ≡ c.args.passes = search rules in
    deals_more c.args.self.now g.S.Begun.start c.loop-lane.list.items c.push_reserved-2.new.self.items c.loop-lane.rest l.4 l.2
    (deals_last (length c.loop-lane.list.items) c.args.passes g.S.Begun.start c.loop-lane.rest.seat.me l.3 end) c.push_reserved-2.ensures.items
