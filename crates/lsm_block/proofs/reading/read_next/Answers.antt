use Rattle.std.proofs.Common.{◌≡◌, ℕ, ◌++◌, length, take, arith, sym, ap, ◌∙◌, subst, true, false}
use Rattle.lsm_block.specs.BlockText.{shared_len}
use Rattle.lsm_block.specs.Blocks.{IsKey}
use Rattle.lsm_block.specs.Parts.{last_key, IsPast}
use Rattle.lsm_block.proofs.Readings.{key_built, no_parts, no_shared, no_place, no_longest, no_follower, next_entry}
use Rattle.lsm_block.proofs.reading.read_next.Goals as goal

pub returns-in_default : goal.returns-in_default
returns-in_default c =
    no_parts c.args.bytes.now c.args.at c.args.entries.now c.requires.within (omega (arith, ap (length {A = ℕ}) c.key_before-before.ensures)) c.in_default.ensures.none

pub returns-then-parts-known : goal.returns-then-parts-known
returns-then-parts-known c =
    no_shared c.args.bytes.now c.args.at c.args.entries.now c.requires.within c.in-Some.parts.shared c.in-Some.parts.rest.now c.in-Some.parts.value.now c.in-Some.parts.next c.in-Some.ensures.some
    (omega (arith, ap (length {A = ℕ}) c.key_before-before.ensures, c.if-parts-known.true))

pub returns-then-parts-ge-PLACES : goal.returns-then-parts-ge-PLACES
returns-then-parts-ge-PLACES c =
    no_place c.args.bytes.now c.args.at c.args.entries.now c.requires.within c.in-Some.parts.shared c.in-Some.parts.rest.now c.in-Some.parts.value.now c.in-Some.parts.next c.in-Some.ensures.some
    c.requires.at c.if-parts-ge-PLACES.true

pub returns-then-shared_with-parts : goal.returns-then-shared_with-parts
returns-then-shared_with-parts c =
    let p = c.in-Some.parts in
    let key : c.extend_from_slice.new.self ≡ take p.shared (last_key c.args.entries.now) ++ p.rest.now =
    key_built c.extend_from_slice.new.self c.in_ok-key.key c.split_at.result.0.now c.key_before-before.result.now (last_key c.args.entries.now) p.rest.now p.shared
    c.in_ok-extend_from_slice.ensures c.in_ok-key.ensures c.split_at.ensures.front c.key_before-before.ensures in
    no_longest c.args.bytes.now c.args.at c.args.entries.now c.requires.within p.shared p.rest.now p.value.now p.next c.in-Some.ensures.some c.extend_from_slice.new.self key
    (λ same. c.if-shared_with-parts.true (c.shared_with.ensures.shared ∙ (λ i. shared_len (length c.args.entries.now) (c.key_before-before.ensures i) (c.as_slice.ensures i)) ∙ same))

pub returns-then-not-may_follow : goal.returns-then-not-may_follow
returns-then-not-may_follow c =
    let p = c.in-Some.parts in
    let key : c.extend_from_slice.new.self ≡ take p.shared (last_key c.args.entries.now) ++ p.rest.now =
    key_built c.extend_from_slice.new.self c.in_ok-key.key c.split_at.result.0.now c.key_before-before.result.now (last_key c.args.entries.now) p.rest.now p.shared
    c.in_ok-extend_from_slice.ensures c.in_ok-key.ensures c.split_at.ensures.front c.key_before-before.ensures in
    no_follower c.args.bytes.now c.args.at c.args.entries.now c.requires.within p.shared p.rest.now p.value.now p.next c.in-Some.ensures.some c.as_slice-2.result.now (c.as_slice-2.ensures ∙ key)
    (λ may. let yes : c.may_follow.result ≡ true = c.may_follow.ensures.1 may in let clash : true ≡ false = sym yes ∙ c.if-not-may_follow.true in cc)

pub returns : goal.returns
returns c =
    let p = c.in-Some.parts in
    let key : c.extend_from_slice.new.self ≡ take p.shared (last_key c.args.entries.now) ++ p.rest.now =
    key_built c.extend_from_slice.new.self c.in_ok-key.key c.split_at.result.0.now c.key_before-before.result.now (last_key c.args.entries.now) p.rest.now p.shared
    c.in_ok-extend_from_slice.ensures c.in_ok-key.ensures c.split_at.ensures.front c.key_before-before.ensures in
    let may : IsKey c.as_slice-2.result.now × IsPast c.args.entries.now c.as_slice-2.result.now = c.may_follow.ensures.0 c.if-not-may_follow.false in
    let shared : shared_len (length c.args.entries.now) (last_key c.args.entries.now) c.extend_from_slice.new.self ≡ p.shared =
    (λ i. shared_len (length c.args.entries.now) (sym c.key_before-before.ensures i) (sym c.as_slice.ensures i)) ∙ sym c.shared_with.ensures.shared ∙ c.if-shared_with-parts.false in
    rw c.in_ok-value.ensures
    (next_entry c.args.bytes.now c.args.at c.args.entries.now c.requires.within p.shared p.rest.now p.value.now p.next c.in-Some.ensures.some c.requires.at c.requires.entries c.extend_from_slice.new.self key
    (omega (arith, c.if-parts-known.false, ap (length {A = ℕ}) c.key_before-before.ensures)) shared
    (subst IsKey c.as_slice-2.ensures may.0) (subst (IsPast c.args.entries.now) c.as_slice-2.ensures may.1) c.if-parts-ge-PLACES.false)
