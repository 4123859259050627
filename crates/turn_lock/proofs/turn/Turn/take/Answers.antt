use Rattle.std.proofs.Common.{rules, Some}
use Rattle.turn_lock.proofs.Moves.{draws, carries}
use Rattle.turn_lock.proofs.turn.Turn.take.Goals as goal

pub fetch_add-ticket-requires : goal.fetch_add-ticket-requires
fetch_add-ticket-requires g c = (search rules, search rules, draws _ g.V.Follows.follows _ _ _ c.requires.free.0)

pub exchange-out-requires : goal.exchange-out-requires
exchange-out-requires g c =
    (search rules, (Some c.wait.ensures.taken.value, carries 0 g.V.Follows.follows _ _ _ (λ k. (c.wait.ensures.taken.me k).1)))
