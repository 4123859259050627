use Rattle.std.specs.Prelude.{[]}
use Rattle.std.proofs.Common.{subst}
use Rattle.lsm_refine.specs.Kept.{Shown}
use Rattle.lsm_store.specs.Inside.{Inner, shown_of}
use Rattle.lsm_store.specs.Reading.{HasClosed}
use Rattle.lsm_store.specs.Fields.{inner}
use Rattle.lsm_store.proofs.Probes.{tables_closed}
use Rattle.lsm_store.proofs.store.Store.close_tables.Goals as goal

pub returns : goal.returns
returns g c =
    let x : Inner = inner g.D.Disk.seen c.self.inside in
    subst (λ (v : Shown). HasClosed c.args.tables v (shown_of (record x { disk = g.D.Disk.seen c.close_looked.new.disk })))
    c.self.view_is
    (tables_closed g.row.D-View.Denot x [] c.args.tables (g.D.Disk.seen c.close_looked.new.disk) c.close_looked.ensures.disk
    c.close_looked.ensures.rose)
