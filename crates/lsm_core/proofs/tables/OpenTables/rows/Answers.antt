use Rattle.std.proofs.Common.{◌≡◌, sym}
use Rattle.lsm_core.proofs.TableLemmas.{is_there, looked_kept, looked, none_open}
use Rattle.lsm_core.proofs.WholeRows.{blocks_stay, others_stay, all_rows}
use Rattle.lsm_core.proofs.tables.OpenTables.rows.Goals as goal

pub invariant_of-self-2 : goal.invariant_of-self-2
invariant_of-self-2 g c =
    let written = c.get_mut.follows.holds c.rows.new.self in
    looked_kept c.self.inside.tables.entries (c.get_mut.follows.lender c.rows.new.self).entries c.self.inside.blocks
    c.self.inside.blocks c.args.self.now c.self.view_is c.args.number (λ rows all. all ≡ rows) c.in-Some.table.now
    c.rows.new.self
    (sym c.in-Some.ensures.value) c.self.invariant c.rows.ensures.view c.rows.result c.get_mut.ensures.ordered
    c.rows.ensures.properties
    (blocks_stay c.in-Some.table.now c.rows.new.self c.self.inside.blocks c.rows.ensures.view c.rows.ensures.index
    c.rows.ensures.properties)
    (others_stay c.in-Some.table.now c.self.inside.blocks) written.0

pub returns : goal.returns
returns g c =
    let written = c.get_mut.follows.holds c.rows.new.self in
    looked c.self.inside.tables.entries (c.get_mut.follows.lender c.rows.new.self).entries c.self.inside.blocks
    c.self.inside.blocks c.args.self.now c.self.view_is c.args.number (λ rows all. all ≡ rows) c.in-Some.table.now
    c.rows.new.self
    (sym c.in-Some.ensures.value) c.self.invariant c.rows.ensures.view c.rows.result
    (written.3 (is_there c.in-Some.table.now _ c.in-Some.ensures.value)).0
    (λ are. all_rows c.in-Some.table.now.viewed c.rows.result c.rows.ensures.whole) c.rows.ensures.cause

pub returns-in-None : goal.returns-in-None
returns-in-None g c =
    absurd (none_open c.self.inside.tables.entries c.args.self.now c.self.view_is c.args.number c.requires.is_open (sym
    c.in-None.ensures.value))
