use Rattle.std.proofs.Common.{◌≡◌, ℕ, ◌+◌, ◌-◌, ◌/◌, arith, sym, ap, ◌∙◌, List, true, false}
use Rattle.std.specs.Prelude.{Some}
use Rattle.std.specs.List.{slice_get}
use Rattle.lsm_rows.specs.InternalKeys.{user_key}
use Rattle.lsm_rows.specs.Replay.{key_cmp}
use Rattle.lsm_block.specs.declared.entries.Entry.{Entry}
use Rattle.lsm_block.proofs.Sought.{is_before_user, before_user_falls, test_is}
use Rattle.lsm_block.proofs.Sought.{between_up, between_down, found_user, at_index, long_at}
use Rattle.lsm_block.proofs.blocks.user_place_from.Goals as goal

pub user_part-requires : goal.user_part-requires
user_part-requires c =
    let middle : ℕ = c.loop-low.low + (c.loop-low.high - c.loop-low.low) / 2 in
    let d = c.index-entries-middle.result in
    let there : slice_get c.args.entries.now middle ≡ Some d = at_index c.args.entries.now middle d (omega (arith, c.loop-low-test.true, c.loop-low.invariant.within)) c.index-entries-middle.is in
    rw (c.as_slice.ensures ∙ ap (λ (e : Entry). e.key) (sym c.index-entries-middle.is)) (long_at c.args.entries.now middle d c.requires there)

pub loop-low-preserved-then-eq : goal.loop-low-preserved-then-eq
loop-low-preserved-then-eq c =
    let middle : ℕ = c.loop-low.low + (c.loop-low.high - c.loop-low.low) / 2 in
    let d = c.index-entries-middle.result in
    let there : slice_get c.args.entries.now middle ≡ Some d = at_index c.args.entries.now middle d (omega (arith, c.loop-low-test.true, c.loop-low.invariant.within)) c.index-entries-middle.is in
    between_up c.args.entries.now (is_before_user c.args.key.now) c.loop-low.low c.loop-low.high middle d (before_user_falls c.args.key.now) c.requires c.loop-low.invariant (omega arith) (omega arith) there
    (test_is c.eq.result true c.cmp.result (key_cmp (user_key d.key) c.args.key.now) c.eq.ensures
    (c.cmp.ensures ∙ ap (λ (k : List ℕ). key_cmp k c.args.key.now) (c.user_part.ensures ∙ ap user_key (c.as_slice.ensures ∙ ap (λ (e : Entry). e.key) (sym c.index-entries-middle.is)))) c.if-eq.true)

pub loop-low-preserved : goal.loop-low-preserved
loop-low-preserved c =
    let middle : ℕ = c.loop-low.low + (c.loop-low.high - c.loop-low.low) / 2 in
    let d = c.index-entries-middle.result in
    let there : slice_get c.args.entries.now middle ≡ Some d = at_index c.args.entries.now middle d (omega (arith, c.loop-low-test.true, c.loop-low.invariant.within)) c.index-entries-middle.is in
    between_down c.args.entries.now (is_before_user c.args.key.now) c.loop-low.low c.loop-low.high middle d (before_user_falls c.args.key.now) c.requires c.loop-low.invariant (omega arith) (omega arith) there
    (test_is c.eq.result false c.cmp.result (key_cmp (user_key d.key) c.args.key.now) c.eq.ensures
    (c.cmp.ensures ∙ ap (λ (k : List ℕ). key_cmp k c.args.key.now) (c.user_part.ensures ∙ ap user_key (c.as_slice.ensures ∙ ap (λ (e : Entry). e.key) (sym c.index-entries-middle.is)))) c.if-eq.false)

pub returns : goal.returns
returns c = found_user c.args.entries.now c.args.key.now c.loop-low.low c.loop-low.high (omega arith) c.loop-low.invariant
