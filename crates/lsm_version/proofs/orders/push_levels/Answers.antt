use Rattle.lsm_version.proofs.TableMaps.{tables_of}
use Rattle.lsm_version.proofs.PlaceOrders.{next_level}
use Rattle.lsm_version.proofs.orders.push_levels.Goals as goal

pub loop-level-preserved : goal.loop-level-preserved
loop-level-preserved c =
    next_level (tables_of c.args.tables.now.entries) c.loop-level.level c.loop-level.out c.push_level.new.out _ c.loop-level-test.true c.in_ok-push_level.ensures c.loop-level.invariant
