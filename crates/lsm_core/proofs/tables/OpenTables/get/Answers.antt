use Rattle.std.proofs.Common.{◌≡◌, sym}
use Rattle.lsm_rows.specs.Contents.{newest}
use Rattle.lsm_core.proofs.TableLemmas.{is_there, looked_kept, looked, none_open}
use Rattle.lsm_core.proofs.tables.OpenTables.get.Goals as goal

pub invariant_of-self : goal.invariant_of-self
invariant_of-self g c =
    let written = c.get_mut.follows.holds c.cached_get.new.table in
    looked_kept c.self.inside.tables.entries (c.get_mut.follows.lender c.cached_get.new.table).entries c.self.inside.blocks
    c.cached_get.new.cache c.args.self.now c.self.view_is c.args.number (λ rows row. row ≡ newest c.args.key.now rows) c.in-Some.table.now
    c.cached_get.new.table
    (sym c.in-Some.ensures.value) c.self.invariant c.cached_get.ensures.view c.cached_get.result c.get_mut.ensures.ordered
    c.cached_get.ensures.properties c.cached_get.ensures.blocks c.cached_get.ensures.others written.0

pub returns-in-Some : goal.returns-in-Some
returns-in-Some g c =
    let written = c.get_mut.follows.holds c.cached_get.new.table in
    looked c.self.inside.tables.entries (c.get_mut.follows.lender c.cached_get.new.table).entries c.self.inside.blocks
    c.cached_get.new.cache c.args.self.now c.self.view_is c.args.number (λ rows row. row ≡ newest c.args.key.now rows) c.in-Some.table.now
    c.cached_get.new.table
    (sym c.in-Some.ensures.value) c.self.invariant c.cached_get.ensures.view c.cached_get.result
    (written.3 (is_there c.in-Some.table.now _ c.in-Some.ensures.value)).0 c.cached_get.ensures.whole c.cached_get.ensures.cause

pub returns-in-None : goal.returns-in-None
returns-in-None g c =
    absurd (none_open c.self.inside.tables.entries c.args.self.now c.self.view_is c.args.number c.requires.is_open (sym
    c.in-None.ensures.value))
