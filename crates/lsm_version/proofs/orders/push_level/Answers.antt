use Rattle.std.proofs.Common.{◌≡◌, ◌++◌, [], ap, sym, ◌∙◌, rules}
use Rattle.lsm_version.proofs.PlaceOrders.{places_at, level_done}
use Rattle.lsm_version.proofs.orders.push_level.Goals as goal

pub returns : goal.returns
returns c =
    let ended : c.loop-number.number-iterator ≡ [] = search rules in
    level_done c.args.tables.now.entries c.args.level c.loop-number.out c.args.out.now (search rules)
    (ap (λ es. c.loop-number.out ++ places_at c.args.level es) (sym ended) ∙ c.loop-number.invariant)
