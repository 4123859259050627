use Rattle.std.specs.Prelude.{[], Err}
use Rattle.std.proofs.Common.{ap}
use Rattle.bk_copy.proofs.Hands.{hand_gains, hand_stops}
use Rattle.bk_copy.proofs.in_hand.InHandTarget.add.Goals as goal

pub returns-in-Ok-clause-gained : goal.returns-in-Ok-clause-gained
returns-in-Ok-clause-gained g c first text gained = (
  hand_gains (g.T.Dest.seen first) (g.T.Dest.seen c.args.holder.now) (g.T.Dest.seen c.append.new.self) text c.args.piece.now gained.0 []
      c.in-Ok.ensures.went c.in-Ok.ensures.cause c.in-Ok.ensures.halt c.in-Ok.ensures.leaves,
  λ begin leads. c.in-Ok.ensures.more begin (gained.1 begin leads),
)

pub returns-in-Err-clause-stopped : goal.returns-in-Err-clause-stopped
returns-in-Err-clause-stopped g c first text gained = (
  hand_stops (g.T.Dest.seen first) (g.T.Dest.seen c.args.holder.now) (g.T.Dest.seen c.append.new.self) text c.args.piece.now gained.0 _ c.in-Err.why
      c.requires c.in-Err.ensures.went c.in-Err.ensures.cause c.in-Err.ensures.halt (λ is. c.in-Err.ensures.taken (ap Err is)),
  λ begin leads. c.in-Err.ensures.more begin (gained.1 begin leads),
)
