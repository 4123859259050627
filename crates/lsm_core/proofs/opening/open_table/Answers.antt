use Rattle.std.specs.Prelude.{ℕ, List}
use Rattle.std.proofs.Common.{refl, subst}
use Rattle.lsm_names.specs.FileNames.{is_file_number}
use Rattle.lsm_names.specs.declared.file_names.FileName.TheVariants.{Table as Named}
use Rattle.lsm_disk.specs.Dest.{path_in}
use Rattle.lsm_disk.specs.State.{state_of}
use Rattle.lsm_core.specs.Reading.{IsOpened, HasFile, HoldsTable, ShowsTable}
use Rattle.lsm_core.proofs.AskLemmas.{asks_then, asks_numberless, no_path, path_is, shows_table}
use Rattle.lsm_core.proofs.opening.open_table.Goals as goal

pub returns-in_default-clause-asks : goal.returns-in_default-clause-asks
returns-in_default-clause-asks g c =
    asks_numberless c.args.home.now c.args.number c.args.placed.now (g.D.Disk.seen c.args.disk.now)
    (no_path (is_file_number c.args.number) (path_in c.args.home.now (Named c.args.number)) c.table_path.result
    c.table_path.ensures c.in_default.is)

pub returns-in-Ok-clause-asks : goal.returns-in-Ok-clause-asks
returns-in-Ok-clause-asks g c =
    let path = path_in c.args.home.now (Named c.args.number) in
    let is : IsOpened path c.args.placed.now.info.size (g.D.Disk.seen c.args.disk.now) (g.D.View.View.viewed c.in-Ok.view) =
    subst (λ (p : List ℕ). IsOpened p c.args.placed.now.info.size (g.D.Disk.seen c.args.disk.now) (g.D.View.View.viewed
    c.in-Ok.view))
    (path_is (is_file_number c.args.number) c.in-Some.path path c.in-Some.ensures) c.in-Ok.ensures.opened in
    asks_then (Named c.args.number) (g.D.Disk.seen c.args.disk.now) (g.D.Disk.seen c.open_view.new.disk) (g.D.Disk.seen
    c.read_table.new.disk)
    (HasFile c.in-Some.path c.args.placed.now.info.size)
    (λ d. ShowsTable (g.D.View.View.viewed c.in-Ok.view) c.args.number c.args.placed.now.info.session)
    (HoldsTable c.args.home.now c.args.number c.args.placed.now) c.in-Ok.view c.read_table.result c.in-Ok.ensures.asks
    c.read_table.ensures.asks
    (λ story tells holds. shows_table c.args.home.now c.args.number c.args.placed.now (state_of story) holds (g.D.Disk.seen
    c.args.disk.now)
    story (g.D.View.View.viewed c.in-Ok.view) tells refl is)
