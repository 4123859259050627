use Rattle.std.proofs.Common.{rules, ◌∙◌}
use Rattle.turn_lock.proofs.Moves.{serves, missed}
use Rattle.turn_lock.proofs.turn.Turn.wait.Goals as goal

pub load-requires : goal.load-requires
load-requires g c = (search rules, search rules, serves _ g.V.Follows.follows _ _ _ (search rules) (search rules))

pub loop-preserved : goal.loop-preserved
loop-preserved g c = (
  search rules,
  search rules,
  search rules,
  missed 0 g.V.Follows.follows 1 c.loop.pass.seat.me c.load.new.seat.me c.load.result c.args.ticket c.load.ensures.2 (search rules) (search rules) ∙ search rules,
)
