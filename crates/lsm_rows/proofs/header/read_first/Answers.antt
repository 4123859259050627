use Rattle.std.proofs.Common.{◌≡◌, ℕ, List, ◌^◌, ◌<◌, ◌≤◌, ⊎_elim, length, true, false, arith, refl, sym, subst}
use Rattle.std.proofs.lemmas.Result.{err_from_is_err_and}
use Rattle.std.proofs.lemmas.Bool.{cases_lt}
use Rattle.lsm_bytes.specs.Numbers.{number_at}
use Rattle.lsm_rows.specs.Pieces.{Begins, IsFault}
use Rattle.lsm_rows.specs.Decoding.{IsFirst}
use Rattle.lsm_rows.proofs.ReadHeader.{first_early, first_great, first_read}
use Rattle.lsm_rows.proofs.header.read_first.Goals as goal

pub returns-in_err-first-clause-fault : goal.returns-in_err-first-clause-fault
returns-in_err-first-clause-fault c =
    let p = err_from_is_err_and c.from_residual.result c.from_residual.ensures.1 in
    let bytes : List ℕ = c.args.bytes.now in
    let early : c.in_err-first.field-0.0.place ≡ length bytes = c.in_err-first.ensures.early in
    let short : length bytes < 8 =
    ⊎_elim (λ (less : length bytes < 8). less) (λ (long : 8 ≤ length bytes). let clash : false ≡ true = c.in_err-first.ensures.whole.1 long in cc) (cases_lt (length bytes) 8) in
    rw (p.1, p.2) (subst (λ (n : ℕ). IsFault IsFirst (Begins IsFirst) bytes n) (sym early) (first_early bytes short (record { fit = λ i. omega (arith, c.type_inv.bytes i) })))

pub returns-then-first-ge-SEQUENCES-clause-fault : goal.returns-then-first-ge-SEQUENCES-clause-fault
returns-then-first-ge-SEQUENCES-clause-fault c =
    let value : c.in_ok-first.first ≡ number_at 8 c.args.bytes.now 0 = c.in_ok-first.ensures.value in
    first_great c.args.bytes.now (c.in_ok-first.ensures.whole.0 refl) (record { fit = λ i. omega (arith, c.type_inv.bytes i) }) (subst (λ (n : ℕ). 2 ^ 56 ≤ n) value c.if-first-ge-SEQUENCES.true)

pub returns-clause-text : goal.returns-clause-text
returns-clause-text c =
    let value : c.in_ok-first.first ≡ number_at 8 c.args.bytes.now 0 = c.in_ok-first.ensures.value in
    rw value (first_read c.args.bytes.now (c.in_ok-first.ensures.whole.0 refl) (record { fit = λ i. omega (arith, c.type_inv.bytes i) }))
