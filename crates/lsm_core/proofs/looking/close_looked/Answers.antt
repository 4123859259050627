use Rattle.std.specs.Prelude.{List, Contains}
use Rattle.std.proofs.Common.{sym, subst}
use Rattle.lsm_core.specs.Looking.{Leveled}
use Rattle.lsm_core.proofs.LookLemmas.{one_closed, all_closed, no_items}
use Rattle.lsm_core.proofs.looking.close_looked.Goals as goal

pub loop-table-preserved : goal.loop-table-preserved
loop-table-preserved g c =
    one_closed c.tables.inside.items.items c.loop-table.items.items c.pop.new.self.items c.in-Some.table
    (g.D.View.View.viewed c.view_of.result)
    (g.D.Disk.seen c.args.disk.now) (g.D.Disk.seen c.loop-table.disk) (g.D.Disk.seen c.close.new.self) c.loop-table.invariant
    c.in-Some.ensures.items c.view_of.ensures c.close.ensures.did c.close.ensures.later c.close.ensures.refusals
    c.close.ensures.faults

pub returns-clause-rose : goal.returns-clause-rose
returns-clause-rose g c = λ t among failed.
    all_closed c.tables.inside.items.items c.loop-table.items.items (g.D.Disk.seen c.args.disk.now) (g.D.Disk.seen
    c.loop-table.disk)
    (no_items c.loop-table.items.items c.loop-table.items.len c.in_default.ensures.cases.0 c.loop-table.items.ok.0)
    c.loop-table.invariant t
    (subst (λ (l : List Leveled). Contains l t) (sym c.tables.view_is) among) failed
