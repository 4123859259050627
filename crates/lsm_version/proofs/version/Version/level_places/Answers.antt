use Rattle.lsm_version.proofs.TableMaps.{tables_of}
use Rattle.lsm_version.proofs.PlaceOrders.{level_pushed}
use Rattle.lsm_version.proofs.version.Version.level_places.Goals as goal

pub returns : goal.returns
returns c =
    level_pushed (tables_of c.self.inside.tables.entries) c.args.self.now c.self.view_is c.new-places.result c.new-places.ensures c.args.level c.push_level.new.out c.in_ok-push_level.ensures
