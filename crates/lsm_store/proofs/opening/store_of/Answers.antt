-- No table is open yet.
use Rattle.lsm_store.proofs.NewInside.{none_open}
use Rattle.lsm_store.proofs.opening.store_of.Goals as goal

pub new-requires-4-clause-open : goal.new-requires-4-clause-open
new-requires-4-clause-open g c κs within = none_open c.args.begun.version c.args.tables c.requires.none
