use Rattle.lsm_version.proofs.TableMaps.{tables_of}
use Rattle.lsm_version.proofs.PlaceOrders.{searched}
use Rattle.lsm_version.proofs.version.Version.search_order.Goals as goal

pub returns : goal.returns
returns c =
    searched (tables_of c.self.inside.tables.entries) c.args.self.now c.self.view_is c.new-order.result c.new-order.ensures c.push_level.new.out c.reverse.new.self c.push_levels.new.out
    c.in_ok-push_level.ensures c.reverse.ensures c.in_ok-push_levels.ensures
