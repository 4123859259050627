use Rattle.std.specs.Prelude.{is_ok}
use Rattle.lsm_core.proofs.LookLemmas.{pushed_whole}
use Rattle.lsm_core.proofs.looking.push_table.Goals as goal

pub invariant_of-tables : goal.invariant_of-tables
invariant_of-tables g c =
    pushed_whole c.tables.inside.items.items c.push.new.self.items (record { level = c.args.level; table = c.args.table })
    (is_ok c.push.result)
    c.push.ensures.items c.tables.invariant c.requires.whole
