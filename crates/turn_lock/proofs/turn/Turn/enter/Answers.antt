use Rattle.std.proofs.Common.{rules, [], ◌∷◌, refl}
use Rattle.turn_lock.proofs.Moves.{enters}
use Rattle.turn_lock.proofs.turn.Turn.enter.Goals as goal

pub fetch_add-requires : goal.fetch_add-requires
fetch_add-requires g c = (search rules, search rules, enters _ g.V.Follows.follows _ _ _ (g.B.Entered.entry ∷ []) 1 (search rules) refl)

pub fetch_add-requires-else-entered : goal.fetch_add-requires-else-entered
fetch_add-requires-else-entered g c = (search rules, search rules, enters _ g.V.Follows.follows _ _ _ [] 0 (search rules) refl)
