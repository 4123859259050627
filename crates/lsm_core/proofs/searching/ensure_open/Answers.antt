use Rattle.std.proofs.Common.{refl, arith}
use Rattle.lsm_core.proofs.ReadLemmas.{reads_nothing, kept_is_open, opening_kept, opening_refused}
use Rattle.lsm_core.proofs.searching.ensure_open.Goals as goal

pub returns-then-is_open-clause-reads : goal.returns-then-is_open-clause-reads
returns-then-is_open-clause-reads g c = λ version there.
    reads_nothing c.args.home.now version (g.D.Disk.seen c.args.disk.now) (g.D.Disk.seen c.args.disk.now) c.args.tables.now
    (λ rows value. Unit {0}) tt refl (omega arith) (omega arith) (λ rows t. tt)

pub returns-in-Ok-clause-reads : goal.returns-in-Ok-clause-reads
returns-in-Ok-clause-reads g c = λ version there.
    opening_kept c.args.home.now version c.args.number c.args.placed.now there (g.D.Disk.seen c.args.disk.now) (g.D.Disk.seen
    c.keep_open.new.disk)
    c.args.tables.now _ c.in-Ok.table (g.D.Disk.seen c.open_table.new.disk) c.in-Ok.table c.in-Ok.ensures.asks
    c.in-Ok.ensures.ok
    c.keep_open.ensures.disk c.keep_open.new.tables c.keep_open.result c.keep_open.ensures.kept c.keep_open.ensures.refused

pub returns-in-Ok-clause-is_open : goal.returns-in-Ok-clause-is_open
returns-in-Ok-clause-is_open g c =
    kept_is_open c.args.number c.in-Ok.table.properties.number c.args.tables.now c.keep_open.new.tables c.in-Ok.table.viewed
    c.keep_open.result
    c.in-Ok.ensures.ok.number_is c.keep_open.ensures.kept

pub returns-in-Err-clause-reads : goal.returns-in-Err-clause-reads
returns-in-Err-clause-reads g c = λ version there.
    opening_refused c.args.home.now version c.args.number c.args.placed.now there (g.D.Disk.seen c.args.disk.now)
    (g.D.Disk.seen c.open_table.new.disk) c.args.tables.now (λ rows value. Unit {0}) c.in-Err.refused c.in-Err.ensures.asks
