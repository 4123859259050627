use Rattle.turn_lock.proofs.Ends.{closed, handed}
use Rattle.turn_lock.proofs.turn.Turn.end.Goals as goal

pub unreachable-requires : goal.unreachable-requires
unreachable-requires g c =
    let r = closed c.args.self.table.shared.key g.V.Follows.follows c.args.all.seat.id c.args.all.seat.me.0 _ _ c.requires.idle.0 c.requires.every
    c.close_with-closed.ensures.values.2 c.take-out.result c.take-out.ensures.value in
    c.in_default.not-Some r.0 r.1

pub returns : goal.returns
returns g c =
    let r = closed c.args.self.table.shared.key g.V.Follows.follows c.args.all.seat.id c.args.all.seat.me.0 _ _ c.requires.idle.0 c.requires.every
    c.close_with-closed.ensures.values.2 c.take-out.result c.take-out.ensures.value in
    record { ended = handed c.args.self.table.shared.key g.V.Follows.follows c.args.all.seat.me.0 c.take-out.result c.in-Some.value c.in-Some.is r }
