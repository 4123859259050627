use Rattle.std.proofs.Common.{sym, ap, subst, drop, ◌∙◌}
use Rattle.std.specs.Option.{option_map}
use Rattle.lsm_frame.specs.Reader.{Tells}
use Rattle.lsm_table.specs.Rows.{IsCutAfter}
use Rattle.lsm_table.specs.Tables.{Opened}
use Rattle.lsm_table.proofs.DataBlocks.{parts_stay}
use Rattle.lsm_table.proofs.WholeRows.{whole_run}
use Rattle.lsm_table.proofs.table.Table.rows.Goals as goal

pub invariant_of-self : goal.invariant_of-self
invariant_of-self g c = parts_stay (g.V.View.viewed c.self.inside.view) (g.V.View.viewed c.read_rows.new.view) c.self.inside.properties c.self.inside.index c.read_rows.ensures.view c.self.invariant

pub returns-clause-whole : goal.returns-clause-whole
returns-clause-whole g c = λ text rows number session told is.
    let after = option_map (λ k. k.now) c.args.after in
    let first = c.count_up_to-first.result in
    whole_run (g.V.View.viewed c.self.inside.view) c.self.inside.properties c.self.inside.index c.split_at.result.1.now after c.args.count first c.read_rows.result c.self.invariant.shows
    (subst (λ es. IsCutAfter after es first) c.entries-index.ensures.entries c.count_up_to-first.ensures) (c.split_at.ensures.back ∙ ap (drop first) c.entries-index.ensures.entries) c.read_rows.ensures.ok
    c.read_rows.ensures.err text rows number session (subst (λ (o : Opened). Tells o.viewed text) (sym c.self.view_is) told) is
