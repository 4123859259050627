use Rattle.std.specs.Prelude.{None}
use Rattle.std.proofs.Common.{refl, subst}
use Rattle.lsm_refine.specs.Kept.{Kept}
use Rattle.lsm_core.specs.Catalogs.{kept_with}
use Rattle.lsm_core.specs.Reading.{Views, Reads, only_tables, seen_of}
use Rattle.lsm_core.specs.Searching.{FindsNewest}
use Rattle.lsm_core.proofs.ReadLemmas.{reads_whole}
use Rattle.lsm_core.proofs.catalog.find_row.Goals as goal

pub returns : goal.returns
returns g c =
    let x = c.catalog.inside in
    let with_views : Views → Kept = λ views. kept_with x.version views x.log x.last x.pins.items x.greatest_pin x.disables in
    subst (λ (k : Kept). Reads (FindsNewest k.version c.args.key.now) (seen_of (g.D.Disk.seen c.args.disk.now)
    c.args.home.now k)
    (seen_of (g.D.Disk.seen c.search.new.disk) c.args.home.now (with_views c.search.new.tables)) c.search.result)
    c.catalog.view_is
    (reads_whole (g.D.Disk.seen c.args.disk.now) (g.D.Disk.seen c.search.new.disk) c.args.home.now
    (only_tables x.version x.tables) (only_tables x.version c.search.new.tables) (with_views x.tables) (with_views
    c.search.new.tables)
    None None refl refl refl (FindsNewest x.version c.args.key.now) (FindsNewest x.version c.args.key.now) c.search.result
    c.search.ensures (λ rows row t finds. finds))
