use Rattle.std.specs.Prelude.{List, ◌<◌, ◌≤◌, length, set}
use Rattle.std.proofs.Common.{sym, subst, ◌∙◌}
use Rattle.std.specs.List.{AllZip}
use Rattle.lsm_core.specs.Looking.{Leveled, TellsValue, StaysTable, HasFailed}
use Rattle.lsm_core.proofs.LookLemmas.{none_looked, stays_whole, one_whole, looked_stays, looked_below, looked_tells, looked_met, looked_failed, looked_all}
use Rattle.lsm_core.proofs.looking.look.Goals as goal

pub loop-place-init : goal.loop-place-init
loop-place-init g c = none_looked c.tables.inside.items.items c.args.key.now

pub invariant_of-tables : goal.invariant_of-tables
invariant_of-tables g c =
    stays_whole c.tables.inside.items.items c.loop-place.tables-inside.items.items c.loop-place.invariant.stays
    c.tables.invariant

pub look_in-requires-clause-whole : goal.look_in-requires-clause-whole
look_in-requires-clause-whole g c = λ κs fresh.
    let start = c.tables.inside.items.items in
    let now = c.loop-place.tables-inside.items.items in
    let inner : c.loop-place.place < length start =
    subst (λ (l : List Leveled). c.loop-place.place < length l) c.as_slice-place-end.ensures.value c.loop-place-test.true in
    one_whole now c.loop-place.place _ c.index_mut.result.now c.index_mut.ensures.value
    (looked_below start now c.args.key.now c.loop-place.place c.loop-place.met c.loop-place.invariant inner)
    (stays_whole start now c.loop-place.invariant.stays c.tables.invariant)

pub invariant_of-tables-in-Err : goal.invariant_of-tables-in-Err
invariant_of-tables-in-Err g c =
    let start = c.tables.inside.items.items in
    let now = c.loop-place.tables-inside.items.items in
    let inner : c.loop-place.place < length start =
    subst (λ (l : List Leveled). c.loop-place.place < length l) c.as_slice-place-end.ensures.value c.loop-place-test.true in
    stays_whole start (set now c.loop-place.place c.look_in.new.table) (looked_stays start now c.args.key.now
    c.loop-place.place c.loop-place.met c.loop-place.invariant inner c.index_mut.result.now c.look_in.new.table _
    c.index_mut.ensures.value c.look_in.ensures.stays) c.tables.invariant

pub returns-in-Err-clause-exact : goal.returns-in-Err-clause-exact
returns-in-Err-clause-exact g c = λ value tells.
    let start = c.tables.inside.items.items in
    let now = c.loop-place.tables-inside.items.items in
    let inner : c.loop-place.place < length start =
    subst (λ (l : List Leveled). c.loop-place.place < length l) c.as_slice-place-end.ensures.value c.loop-place-test.true in
    let as_start = subst (λ (l : List Leveled). TellsValue l c.args.key.now value) (sym c.tables.view_is) tells in
    c.in-Err.ensures.exact _ (looked_tells start now c.args.key.now c.loop-place.place c.loop-place.met
    c.loop-place.invariant inner c.index_mut.result.now c.look_in.new.table _ c.index_mut.ensures.value
    c.look_in.ensures.stays value as_start)

pub returns-in-Err-clause-stays : goal.returns-in-Err-clause-stays
returns-in-Err-clause-stays g c =
    let start = c.tables.inside.items.items in
    let now = c.loop-place.tables-inside.items.items in
    let inner : c.loop-place.place < length start =
    subst (λ (l : List Leveled). c.loop-place.place < length l) c.as_slice-place-end.ensures.value c.loop-place-test.true in
    subst (λ (l : List Leveled). AllZip StaysTable l (set now c.loop-place.place c.look_in.new.table)) c.tables.view_is
    (looked_stays start now c.args.key.now c.loop-place.place c.loop-place.met c.loop-place.invariant inner
    c.index_mut.result.now c.look_in.new.table _ c.index_mut.ensures.value c.look_in.ensures.stays)

pub returns-in-Err-clause-cause : goal.returns-in-Err-clause-cause
returns-in-Err-clause-cause g c = λ failed.
    let start = c.tables.inside.items.items in
    let now = c.loop-place.tables-inside.items.items in
    let inner : c.loop-place.place < length start =
    subst (λ (l : List Leveled). c.loop-place.place < length l) c.as_slice-place-end.ensures.value c.loop-place-test.true in
    subst (λ (l : List Leveled). HasFailed l (set now c.loop-place.place c.look_in.new.table)) c.tables.view_is
    (looked_failed start now c.args.key.now c.loop-place.place c.loop-place.met c.loop-place.invariant inner
    c.index_mut.result.now c.look_in.new.table _ c.index_mut.ensures.value c.look_in.ensures.stays
    (c.in-Err.ensures.cause failed))

pub loop-place-preserved : goal.loop-place-preserved
loop-place-preserved g c =
    let start = c.tables.inside.items.items in
    let now = c.loop-place.tables-inside.items.items in
    let inner : c.loop-place.place < length start =
    subst (λ (l : List Leveled). c.loop-place.place < length l) c.as_slice-place-end.ensures.value c.loop-place-test.true in
    record {
      stays = looked_stays start now c.args.key.now c.loop-place.place c.loop-place.met c.loop-place.invariant inner
          c.index_mut.result.now c.look_in.new.table _ c.index_mut.ensures.value c.look_in.ensures.stays;
      met_in = λ value tells. looked_met start now c.args.key.now c.loop-place.place c.loop-place.met c.loop-place.invariant
          inner c.index_mut.result.now c.look_in.new.table _ c.index_mut.ensures.value c.look_in.ensures.stays value tells
          c.in-Ok.now
          (c.in-Ok.ensures.exact _ (looked_tells start now c.args.key.now c.loop-place.place c.loop-place.met
          c.loop-place.invariant inner c.index_mut.result.now c.look_in.new.table _ c.index_mut.ensures.value
          c.look_in.ensures.stays value tells));
    }

pub returns-clause-exact : goal.returns-clause-exact
returns-clause-exact g c = λ value tells.
    let start = c.tables.inside.items.items in
    let enough : length start ≤ c.loop-place.place =
    subst (λ (l : List Leveled). length l ≤ c.loop-place.place) c.as_slice-place-end.ensures.value c.loop-place-test.false in
    c.value_met.ensures
    ∙ looked_all start c.loop-place.tables-inside.items.items c.args.key.now c.loop-place.place c.loop-place.met
    c.loop-place.invariant enough value
    (subst (λ (l : List Leveled). TellsValue l c.args.key.now value) (sym c.tables.view_is) tells)
