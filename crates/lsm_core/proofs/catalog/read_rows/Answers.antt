use Rattle.std.specs.Prelude.{None}
use Rattle.std.proofs.Common.{◌≡◌, refl, subst}
use Rattle.lsm_folder.specs.Parts.{rows_of_tables}
use Rattle.lsm_refine.specs.Kept.{Kept}
use Rattle.lsm_core.specs.Catalogs.{kept_with}
use Rattle.lsm_core.specs.Reading.{Views, Reads, only_tables, seen_of}
use Rattle.lsm_core.proofs.ReadLemmas.{reads_whole}
use Rattle.lsm_core.proofs.catalog.read_rows.Goals as goal

pub returns : goal.returns
returns g c =
    let x = c.catalog.inside in
    let with_views : Views → Kept = λ views. kept_with x.version views x.log x.last x.pins.items x.greatest_pin x.disables in
    subst (λ (k : Kept). Reads (λ rows all. all ≡ rows_of_tables k.version rows) (seen_of (g.D.Disk.seen c.args.disk.now)
    c.args.home.now k)
    (seen_of (g.D.Disk.seen c.rows_of_tables.new.disk) c.args.home.now (with_views c.rows_of_tables.new.tables))
    c.rows_of_tables.result)
    c.catalog.view_is
    (reads_whole (g.D.Disk.seen c.args.disk.now) (g.D.Disk.seen c.rows_of_tables.new.disk) c.args.home.now
    (only_tables x.version x.tables) (only_tables x.version c.rows_of_tables.new.tables) (with_views x.tables) (with_views
    c.rows_of_tables.new.tables)
    None None refl refl refl (λ rows all. all ≡ rows_of_tables x.version rows) (λ rows all. all ≡ rows_of_tables x.version rows)
    c.rows_of_tables.result
    c.rows_of_tables.ensures (λ rows all t is. is))
