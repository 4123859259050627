use Rattle.std.proofs.Common.{rules}
use Rattle.turn_lock.proofs.Ends.{joins}
use Rattle.turn_lock.proofs.turn.Turn.join.Goals as goal

pub join_seat-requires : goal.join_seat-requires
join_seat-requires g c = (search rules, search rules, search rules, search rules, joins _ g.V.Follows.follows _ _ _ _ c.requires.idle.0.0 c.requires.idle.1.0)
