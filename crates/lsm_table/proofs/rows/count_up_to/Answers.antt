use Rattle.std.proofs.Common.{◌≡◌, ℕ, ◌+◌, ◌-◌, ◌/◌, arith, sym, ap, subst, ◌∙◌, List, true, false, not}
use Rattle.std.specs.Prelude.{Some}
use Rattle.std.specs.List.{slice_get}
use Rattle.std.specs.Option.{option_map}
use Rattle.lsm_rows.specs.InternalKeys.{internal_cmp}
use Rattle.lsm_block.specs.declared.entries.Entry.{Entry}
use Rattle.lsm_block.proofs.Sought.{test_is, between_up, between_down, at_index, long_at}
use Rattle.lsm_table.specs.Rows.{IsCutAfter}
use Rattle.lsm_table.proofs.AfterKeys.{is_up_to, up_to_falls, cut_found}
use Rattle.lsm_table.proofs.rows.count_up_to.Goals as goal

pub compare_internal_keys-requires-clause-second : goal.compare_internal_keys-requires-clause-second
compare_internal_keys-requires-clause-second c =
    let middle : ℕ = c.loop-low.low + (c.loop-low.high - c.loop-low.low) / 2 in
    let d = c.index-entries-middle.result in
    let there : slice_get c.args.entries.now middle ≡ Some d = at_index c.args.entries.now middle d (omega (arith, c.loop-low-test.true, c.loop-low.invariant.within)) c.index-entries-middle.is in
    rw (c.as_slice.ensures ∙ ap (λ (e : Entry). e.key) (sym c.index-entries-middle.is)) (long_at c.args.entries.now middle d c.requires.entries there)

pub loop-low-preserved-then-eq : goal.loop-low-preserved-then-eq
loop-low-preserved-then-eq c =
    let middle : ℕ = c.loop-low.low + (c.loop-low.high - c.loop-low.low) / 2 in
    let key : List ℕ = c.in-Some.key.now in
    let d = c.index-entries-middle.result in
    let there : slice_get c.args.entries.now middle ≡ Some d = at_index c.args.entries.now middle d (omega (arith, c.loop-low-test.true, c.loop-low.invariant.within)) c.index-entries-middle.is in
    between_down c.args.entries.now (is_up_to key) c.loop-low.low c.loop-low.high middle d (up_to_falls key) c.requires.entries c.loop-low.invariant (omega arith) (omega arith) there
    (ap not (test_is c.eq.result true c.compare_internal_keys.result (internal_cmp key d.key) c.eq.ensures
    (c.compare_internal_keys.ensures ∙ ap (λ (k : List ℕ). internal_cmp key k) (c.as_slice.ensures ∙ ap (λ (e : Entry). e.key) (sym c.index-entries-middle.is))) c.if-eq.true))

pub loop-low-preserved : goal.loop-low-preserved
loop-low-preserved c =
    let middle : ℕ = c.loop-low.low + (c.loop-low.high - c.loop-low.low) / 2 in
    let key : List ℕ = c.in-Some.key.now in
    let d = c.index-entries-middle.result in
    let there : slice_get c.args.entries.now middle ≡ Some d = at_index c.args.entries.now middle d (omega (arith, c.loop-low-test.true, c.loop-low.invariant.within)) c.index-entries-middle.is in
    between_up c.args.entries.now (is_up_to key) c.loop-low.low c.loop-low.high middle d (up_to_falls key) c.requires.entries c.loop-low.invariant (omega arith) (omega arith) there
    (ap not (test_is c.eq.result false c.compare_internal_keys.result (internal_cmp key d.key) c.eq.ensures
    (c.compare_internal_keys.ensures ∙ ap (λ (k : List ℕ). internal_cmp key k) (c.as_slice.ensures ∙ ap (λ (e : Entry). e.key) (sym c.index-entries-middle.is))) c.if-eq.false))

pub returns : goal.returns
returns c =
    subst (λ a. IsCutAfter (option_map (λ k. k.now) a) c.args.entries.now c.loop-low.low) (sym c.in-Some.is)
    (cut_found c.args.entries.now c.in-Some.key.now c.loop-low.low c.loop-low.high (omega arith) c.loop-low.invariant)
