use Rattle.std.proofs.Common.{◌≡◌, ◌+◌, ◌<◌, ◌≤◌, length, take, drop, arith, subst, sym, ap, ◌∙◌, refl}
use Rattle.lsm_block.specs.Parts.{ArePartsAt}
use Rattle.lsm_block.proofs.EntryParts.{none_at_end, no_lengths, no_rest, no_value, parts_read}
use Rattle.lsm_block.proofs.EntryLists.{parts_some}
use Rattle.lsm_block.proofs.reading.read_parts.Goals as goal

pub returns-then-at-bytes-clause-none : goal.returns-then-at-bytes-clause-none
returns-then-at-bytes-clause-none c =
    λ shared rest value more small text. none_at_end c.args.bytes.now c.args.at shared rest value more c.if-at-bytes.true (parts_some shared rest value) text

pub returns-in_err-lengths-clause-none : goal.returns-in_err-lengths-clause-none
returns-in_err-lengths-clause-none c =
    rw c.from_residual.ensures (λ shared rest value more small text.
    no_lengths c.args.bytes.now c.args.at shared rest value more c.requires (omega arith) c.in_err-lengths.ensures.none small text)

pub returns-then-lengths-behind-clause-none : goal.returns-then-lengths-behind-clause-none
returns-then-lengths-behind-clause-none c =
    λ shared rest value more small text. no_rest c.args.bytes.now c.args.at c.in_ok-lengths.lengths.shared c.in_ok-lengths.lengths.rest c.in_ok-lengths.lengths.value c.in_ok-lengths.lengths.next
    shared rest value more c.in_ok-lengths.ensures.some (subst (λ t. length t < c.in_ok-lengths.lengths.rest) c.split_at.ensures.back c.if-lengths-behind.true) text

pub returns-then-lengths-behind-2-clause-none : goal.returns-then-lengths-behind-2-clause-none
returns-then-lengths-behind-2-clause-none c =
    λ shared rest value more small text. no_value c.args.bytes.now c.args.at c.in_ok-lengths.lengths.shared c.in_ok-lengths.lengths.rest c.in_ok-lengths.lengths.value c.in_ok-lengths.lengths.next
    shared rest value more c.in_ok-lengths.ensures.some
    (subst (λ t. length t < c.in_ok-lengths.lengths.value) (c.split_at-2.ensures.back ∙ ap (drop c.in_ok-lengths.lengths.rest) c.split_at.ensures.back) c.if-lengths-behind-2.true) text

pub returns-clause-some : goal.returns-clause-some
returns-clause-some c =
    let l = c.in_ok-lengths.lengths in
    let behind : c.split_at.result.1.now ≡ drop l.next c.args.bytes.now = c.split_at.ensures.back in
    let rest : c.split_at-2.result.0.now ≡ take l.rest (drop l.next c.args.bytes.now) = c.split_at-2.ensures.front ∙ ap (take l.rest) behind in
    let further : c.split_at-2.result.1.now ≡ drop l.rest (drop l.next c.args.bytes.now) = c.split_at-2.ensures.back ∙ ap (drop l.rest) behind in
    let value : c.split_at-3.result.0.now ≡ take l.value (drop l.rest (drop l.next c.args.bytes.now)) = c.split_at-3.ensures.front ∙ ap (take l.value) further in
    let is : ArePartsAt c.args.bytes.now c.args.at l.shared (take l.rest (drop l.next c.args.bytes.now)) (take l.value (drop l.rest (drop l.next c.args.bytes.now))) (l.next + l.rest + l.value) =
    parts_read c.args.bytes.now c.args.at l.shared l.rest l.value l.next (l.next + l.rest + l.value) c.in_ok-lengths.ensures.some
    (subst (λ t. l.rest ≤ length t) behind c.if-lengths-behind.false) (subst (λ t. l.value ≤ length t) further c.if-lengths-behind-2.false) refl in
    subst (λ r. ArePartsAt c.args.bytes.now c.args.at l.shared r c.split_at-3.result.0.now (l.next + l.rest + l.value)) (sym rest)
    (subst (λ v. ArePartsAt c.args.bytes.now c.args.at l.shared (take l.rest (drop l.next c.args.bytes.now)) v (l.next + l.rest + l.value)) (sym value) is)
