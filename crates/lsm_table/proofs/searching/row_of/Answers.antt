use Rattle.lsm_block.specs.declared.entries.Entry.{Entry}
use Rattle.lsm_table.proofs.Searches.{absent_row, no_key_row, other_row, found_row}
use Rattle.lsm_table.proofs.searching.row_of.Goals as goal

pub returns-in_default : goal.returns-in_default
returns-in_default c = absent_row c.args.block.now c.args.key.now c.in_default.ensures.block c.in_default.ensures.found

pub returns-in_default-parse_internal_key : goal.returns-in_default-parse_internal_key
returns-in_default-parse_internal_key c =
    let e : Entry = record { key = c.in-Some.found.now; value = c.in-Some.value.now } in
    no_key_row c.args.block.now c.args.key.now e c.in-Some.ensures.block c.in-Some.ensures.found c.in_default-parse_internal_key.ensures.none

pub returns-then-ne : goal.returns-then-ne
returns-then-ne c =
    let e : Entry = record { key = c.in-Some.found.now; value = c.in-Some.value.now } in
    let p = c.in-Some-parse_internal_key.field-0 in
    other_row c.args.block.now c.args.key.now e p.key.now p.sequence p.kind c.ne.result c.in-Some.ensures.block c.in-Some.ensures.found c.in-Some-parse_internal_key.ensures.some c.ne.ensures c.if-ne.true

pub returns : goal.returns
returns c =
    let p = c.in-Some-parse_internal_key.field-0 in
    found_row c.args.block.now c.args.key.now c.in_ok-key.key c.in-Some.value.now c.in-Some.found.now p.key.now p.sequence p.kind c.in_ok-value.value c.ne.result c.in-Some.ensures.block c.in-Some.ensures.found
    c.in-Some-parse_internal_key.ensures.some c.ne.ensures c.if-ne.false c.in_ok-key.ensures c.in_ok-value.ensures
