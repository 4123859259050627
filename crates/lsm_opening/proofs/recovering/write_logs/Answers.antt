use Rattle.lsm_opening.proofs.RecoveredFolders.{with_rows, wrote_table}
use Rattle.lsm_opening.proofs.recovering.write_logs.Goals as goal

pub returns-in-Ok-with_table-clause-written : goal.returns-in-Ok-with_table-clause-written
returns-in-Ok-with_table-clause-written g c =
    with_rows c.args.dir.now c.args.version c.in-Ok-with_table.version c.args.names c.in-Ok.names c.args.rows.now
    c.as_slice.result.now c.args.number (g.D.Disk.seen c.args.disk.now).told (g.D.Disk.seen c.write_rows.new.disk).told
    c.in-Ok-write_rows.info
    (λ none. let yes = c.is_empty.ensures.1 none in let no = c.if-is_empty.false in absurd (cc))
    c.as_slice.ensures c.in-Ok-write_rows.ensures.table c.in-Ok-with_table.ensures.with c.in-Ok.ensures

pub returns-in-Ok-write_rows-clause-stopped : goal.returns-in-Ok-write_rows-clause-stopped
returns-in-Ok-write_rows-clause-stopped g c =
    wrote_table c.args.dir.now c.as_slice.result.now c.args.number (g.D.Disk.seen c.args.disk.now).told
    (g.D.Disk.seen c.write_rows.new.disk).told c.in-Ok-write_rows.info c.in-Ok-write_rows.ensures.table
