use Rattle.std.proofs.Common.{◌≡◌, ℕ, List, ◌^◌, ◌/◌, ◌%◌, ◌<◌, arith, sym, ap, ◌∙◌, subst}
use Rattle.lsm_rows.specs.InternalKeys.{IsInternalKey, user_key, trailer, kind_byte}
use Rattle.lsm_rows.proofs.InternalOrder.{too_short, other_kind, parsed}
use Rattle.lsm_rows.proofs.internal_keys.parse_internal_key.Goals as goal

pub returns-then-bytes-lt-TRAILER-clause-none : goal.returns-then-bytes-lt-TRAILER-clause-none
returns-then-bytes-lt-TRAILER-clause-none c = λ key sequence kind is. too_short c.args.bytes.now key sequence kind c.if-bytes-lt-TRAILER.true is

pub returns-in_err-kind-clause-none : goal.returns-in_err-kind-clause-none
returns-in_err-kind-clause-none c =
    let read : c.split_trailer-number.result.1 ≡ trailer c.args.bytes.now = c.split_trailer-number.ensures.number in
    rw c.from_residual.ensures (λ key sequence kind is.
    other_kind c.args.bytes.now key sequence kind (λ same. c.in_err-kind.ensures.none kind (ap (λ (n : ℕ). n % 256) read ∙ same)) is)

pub returns-clause-some : goal.returns-clause-some
returns-clause-some c =
    let read : c.split_trailer-number.result.1 ≡ trailer c.args.bytes.now = c.split_trailer-number.ensures.number in
    let front : c.split_trailer-number.result.0.now ≡ user_key c.args.bytes.now = c.split_trailer-number.ensures.key in
    let kind_is : c.split_trailer-number.result.1 % 256 ≡ kind_byte c.in_ok-kind.kind = c.in_ok-kind.ensures.some in
    let small : c.split_trailer-number.result.1 < 2 ^ 64 = omega arith in
    subst (λ (key : List ℕ). IsInternalKey c.args.bytes.now key (c.split_trailer-number.result.1 / 256) c.in_ok-kind.kind) (sym front)
    (subst (λ (n : ℕ). IsInternalKey c.args.bytes.now (user_key c.args.bytes.now) (n / 256) c.in_ok-kind.kind) (sym read)
    (parsed c.args.bytes.now c.in_ok-kind.kind c.if-bytes-lt-TRAILER.false (record { fit = λ i. omega (arith, c.type_inv.bytes i) })
    (subst (λ (n : ℕ). n < 2 ^ 64) read small) (subst (λ (n : ℕ). n % 256 ≡ kind_byte c.in_ok-kind.kind) read kind_is)))
