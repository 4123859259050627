use Rattle.std.specs.Prelude.{List, Some}
use Rattle.std.proofs.Common.{sym, subst, ◌∙◌}
use Rattle.lsm_version.specs.declared.tables.Place.{Place}
use Rattle.lsm_opening.specs.Edits.{IsWholeEdit}
use Rattle.lsm_opening.proofs.WholeEdits.{added_none, added_more, stands_at, all_added}
use Rattle.lsm_opening.proofs.edits.whole_edit.Goals as goal

pub push_table-requires-clause-stands : goal.push_table-requires-clause-stands
push_table-requires-clause-stands c =
    stands_at c.args.version.now c.requires c.as_slice-place-items.result.now
    (c.as_slice-place-items.ensures ∙ c.in_ok-places.ensures) c.loop-place.place-index (record { level = 0; number = 0 })
    c.loop-place-test.true

pub loop-place-init : goal.loop-place-init
loop-place-init c = added_none c.args.version.now c.new-adds.result c.new-adds.ensures

pub loop-place-preserved : goal.loop-place-preserved
loop-place-preserved c =
    added_more c.args.version.now c.as_slice-place-items.result.now c.loop-place.place-index
    (record { level = 0; number = 0 })
    c.loop-place.adds c.push_table.new.adds c.loop-place-test.true c.loop-place.invariant c.in_ok-push_table.ensures

pub returns : goal.returns
returns c =
    subst (λ (drops : List Place). IsWholeEdit c.args.version.now c.args.log c.args.next c.args.last
    (record { log = Some c.args.log; next = Some c.args.next; last = Some c.args.last; adds = c.loop-place.adds; drops = drops }))
    (sym c.new.ensures)
    (all_added c.args.version.now c.as_slice-place-items.result.now c.loop-place.place-index c.loop-place.adds
    (c.as_slice-place-items.ensures ∙ c.in_ok-places.ensures) c.loop-place-test.false c.loop-place.invariant c.args.log
    c.args.next c.args.last)
