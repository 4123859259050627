use Rattle.std.proofs.Common.{rules}
use Rattle.turn_lock.proofs.Moves.{empties, starts}
use Rattle.turn_lock.proofs.turn.Turn.found.Goals as goal

pub load-requires : goal.load-requires
load-requires g c = (search rules, search rules, empties _ g.V.Follows.follows _ _ _ (search rules))

pub fetch_add-requires : goal.fetch_add-requires
fetch_add-requires g c = (search rules, search rules, starts _ g.V.Follows.follows _ _ _ g.S.Begun.start c.args.value (search rules) c.requires.follows)
