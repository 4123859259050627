use Rattle.std.proofs.Common.{sym, subst}
use Rattle.lsm_refine.specs.WholeEdits.{AreInRange}
use Rattle.lsm_opening.proofs.TopTables.{top_applied, top_range}
use Rattle.lsm_opening.proofs.recovering.with_table.Goals as goal

pub returns-in-Ok-clause-with : goal.returns-in-Ok-clause-with
returns-in-Ok-clause-with c = top_applied c.args.version.now c.in-Ok.version c.args.info c.in-Ok.ensures

pub returns-in-Ok-clause-range : goal.returns-in-Ok-clause-range
returns-in-Ok-clause-range c =
    subst AreInRange (sym (top_applied c.args.version.now c.in-Ok.version c.args.info c.in-Ok.ensures))
    (top_range c.args.version.now c.args.info c.requires.range c.requires.number c.requires.said)
