use Rattle.std.specs.Prelude.{None}
use Rattle.std.proofs.Common.{refl, subst}
use Rattle.lsm_version.specs.Orders.{AreLevels}
use Rattle.lsm_refine.specs.Kept.{Kept}
use Rattle.lsm_core.specs.Catalogs.{kept_with}
use Rattle.lsm_core.specs.Looking.{AreOpened}
use Rattle.lsm_core.specs.Reading.{Reads, only_tables, seen_of}
use Rattle.lsm_core.specs.Searching.{looked_at}
use Rattle.lsm_core.proofs.ReadLemmas.{reads_whole}
use Rattle.lsm_core.proofs.catalog.open_tables.Goals as goal

pub returns : goal.returns
returns g c =
    let x = c.catalog.inside in
    let kept : Kept = kept_with x.version x.tables x.log x.last x.pins.items x.greatest_pin x.disables in
    subst (λ (k : Kept). Reads (λ rows tables. AreLevels k.version → AreOpened rows (looked_at k.version c.args.key.now) tables)
    (seen_of (g.D.Disk.seen c.args.disk.now) c.args.home.now k) (seen_of (g.D.Disk.seen c.open_looked.new.disk)
    c.args.home.now k)
    c.open_looked.result) c.catalog.view_is
    (reads_whole (g.D.Disk.seen c.args.disk.now) (g.D.Disk.seen c.open_looked.new.disk) c.args.home.now
    (only_tables x.version x.tables) (only_tables x.version x.tables) kept kept None None refl refl refl _ _
    c.open_looked.result
    (c.open_looked.ensures x.tables) (λ rows tables t opens. opens))
