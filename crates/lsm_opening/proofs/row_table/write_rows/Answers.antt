use Rattle.std.specs.Prelude.{ℕ, List}
use Rattle.std.proofs.Common.{subst}
use Rattle.lsm_memtable.specs.Flushes.{Flushing}
use Rattle.lsm_opening.specs.RowFiles.{WritesFile, IsSealedAs}
use Rattle.lsm_opening.specs.RowTables.{IsEndOf, flushed_text}
use Rattle.lsm_opening.proofs.RowFiles.{nothing_written}
use Rattle.lsm_opening.proofs.RowTables.{row_table, some_joined}
use Rattle.lsm_opening.proofs.row_table.write_rows.Goals as goal

pub new-flush-requires : goal.new-flush-requires
new-flush-requires g c = some_joined c.args.rows.now c.in-Ok.table c.in-Ok.ensures.joined c.requires.some

pub returns-in-Ok-write_table-clause-table : goal.returns-in-Ok-write_table-clause-table
returns-in-Ok-write_table-clause-table g c =
    let last = c.in-Ok-write_table.last in
    let told = (g.D.Disk.seen c.write_table.new.disk).told in
    row_table c.args.rows.now c.in-Ok.table c.in-Ok.ensures.joined c.in-Ok.ensures.limits c.args.number c.args.session
    c.as_bytes-session.ensures.session last
    (subst (λ (f : Flushing). IsEndOf f last) c.new-flush.ensures.flush c.in-Ok-write_table.ensures.last)
    c.args.dir.now (g.D.Disk.seen c.args.disk.now).told told c.file-path.result c.file-path.ensures
    (λ start is. subst (λ (f : Flushing). WritesFile c.file-path.result start told
    (IsSealedAs c.file-path.result start (flushed_text f)))
    c.new-flush.ensures.flush (c.in-Ok-write_table.ensures.went start is))

pub returns-in-Ok-clause-stopped : goal.returns-in-Ok-clause-stopped
returns-in-Ok-clause-stopped g c start is =
    subst (λ (path : List ℕ). WritesFile path start (g.D.Disk.seen c.write_table.new.disk).told
    (λ x. Unit {0})) c.file-path.ensures
    (c.in-Err-write_table.ensures.went start is)

pub returns-clause-stopped : goal.returns-clause-stopped
returns-clause-stopped g c start is =
    subst (λ (path : List ℕ). WritesFile path start (g.D.Disk.seen c.args.disk.now).told (λ x. Unit {0})) c.file-path.ensures
    (nothing_written c.file-path.result start is)
