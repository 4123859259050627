use Rattle.lsm_version.proofs.TableMaps.{tables_of}
use Rattle.lsm_version.proofs.PlaceOrders.{all_pushed}
use Rattle.lsm_version.proofs.version.Version.places.Goals as goal

pub returns : goal.returns
returns c =
    all_pushed (tables_of c.self.inside.tables.entries) c.args.self.now c.self.view_is c.new-places.result c.new-places.ensures c.push_levels.new.out c.in_ok-push_levels.ensures
