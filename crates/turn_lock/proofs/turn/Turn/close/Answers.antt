use Rattle.std.proofs.Common.{◌<◌, length, sym, arith}
use Rattle.turn_lock.specs.Passes.{passes_of}
use Rattle.turn_lock.proofs.Joined.{ended_as, joined, one_lane_each}
use Rattle.turn_lock.proofs.turn.Turn.close.Goals as goal

pub returns : goal.returns
returns g c =
    let some : 0 < length c.args.passes.items = (let a = c.args.self.some in let b = c.requires.every in omega arith) in
    record {
      joined = joined g.V.Follows.follows c.args.passes.items c.end.result (one_lane_each c.args.self c.args.passes.items c.requires.each) some
          (ended_as g.V.Follows.follows c.args.passes.items c.gather-all.result.seat.me (passes_of c.args.self) c.end.result
          (sym c.requires.every) c.gather-all.ensures.all c.end.ensures.ended);
    }
