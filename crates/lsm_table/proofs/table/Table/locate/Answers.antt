use Rattle.std.proofs.Common.{subst, Some}
use Rattle.lsm_block.specs.declared.entries.Entry.{Entry}
use Rattle.lsm_table.specs.Tables.{Opened, IsLocated, Shows}
use Rattle.lsm_table.proofs.Indexes.{located_none, located_strange, located_some}
use Rattle.lsm_table.proofs.table.Table.locate.Goals as goal

pub returns-in_err-value-clause-place : goal.returns-in_err-value-clause-place
returns-in_err-value-clause-place g c =
    subst (λ (o : Opened). IsLocated c.args.key.now o.index c.from_residual.result) c.self.view_is
    (located_none c.args.key.now c.self.inside.index c.from_residual.result c.from_residual.ensures c.in_err-value.ensures.found)

pub returns-in_err-place-clause-place : goal.returns-in_err-place-clause-place
returns-in_err-place-clause-place g c =
    let e : Entry = record { key = c.in_ok-value.field-0-0.now; value = c.in_ok-value.value.now } in
    subst (λ (o : Opened). IsLocated c.args.key.now o.index c.from_residual-in_err-place.result) c.self.view_is
    (located_strange c.args.key.now c.self.inside.index c.from_residual-in_err-place.result e c.self.invariant.places c.in_ok-value.ensures.found c.in_err-place.ensures.none)

pub returns-clause-place : goal.returns-clause-place
returns-clause-place g c =
    let e : Entry = record { key = c.in_ok-value.field-0-0.now; value = c.in_ok-value.value.now } in
    subst (λ (o : Opened). IsLocated c.args.key.now o.index (Some c.in_ok-place.place)) c.self.view_is
    (located_some c.args.key.now c.self.inside.index e c.in_ok-place.place c.in_ok-place.field-0-1 c.in_ok-value.ensures.found c.in_ok-place.ensures.some)

pub returns-in_err-value-clause-shows : goal.returns-in_err-value-clause-shows
returns-in_err-value-clause-shows g c = subst (λ (o : Opened). Shows o.viewed o.properties o.index) c.self.view_is c.self.invariant.shows

pub returns-in_err-place-clause-shows : goal.returns-in_err-place-clause-shows
returns-in_err-place-clause-shows g c = subst (λ (o : Opened). Shows o.viewed o.properties o.index) c.self.view_is c.self.invariant.shows

pub returns-clause-shows : goal.returns-clause-shows
returns-clause-shows g c = subst (λ (o : Opened). Shows o.viewed o.properties o.index) c.self.view_is c.self.invariant.shows
