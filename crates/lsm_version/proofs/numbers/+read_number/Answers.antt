use Rattle.std.proofs.Common.{◌≡◌, ℕ, ◌+◌, ◌∷◌, List, drop, inl, inr, arith, sym, ap, ◌∙◌}
use Rattle.std.proofs.lemmas.Result.{err_from_is_err_and}
use Rattle.lsm_rows.proofs.ReadNumbers.{first_split, read_end}
use Rattle.lsm_version.proofs.ReadNumbers.{read_outside, read_last, read_high, read_more}
use Rattle.lsm_version.proofs.numbers.+read_number.Goals as goal
use Rattle.lsm_version.proofs.numbers.+read_number.Goals.{then-byte-least-via-then-byte-least, then-byte-least-via-else-byte-least+then-byte-most}
use Rattle.lsm_version.proofs.numbers.+read_number.Goals.{then-most-low-via-then-most-low, then-most-low-via-else-most-low+then-most-low-2}

pub returns-then-at-bytes-clause-fault : goal.returns-then-at-bytes-clause-fault
returns-then-at-bytes-clause-fault t c = read_end c.args.bytes.now c.args.at c.args.least c.args.most c.if-at-bytes.true c.requires.some

pub returns-then-byte-least-clause-fault : goal.returns-then-byte-least-clause-fault
returns-then-byte-least-clause-fault t c =
    let bytes : List ℕ = c.args.bytes.now in
    let at : ℕ = c.args.at in
    let split : drop at bytes ≡ c.from-byte.result ∷ drop (at + 1) bytes = first_split bytes at (omega arith) ∙ ap (λ (b : ℕ). b ∷ drop (at + 1) bytes) (sym c.from-byte.ensures) in
    read_outside bytes at c.args.least c.args.most c.from-byte.result split c.requires.some
    (inl (
      c.if-byte-lt128.true,
      elim c.then-byte-least.branch [
        | then-byte-least-via-then-byte-least w ↦ inl w.if-byte-least.true
        | then-byte-least-via-else-byte-least+then-byte-most w ↦ inr w.if-byte-most.true
      ],
    ))

pub returns-then-byte-lt128-clause-ok : goal.returns-then-byte-lt128-clause-ok
returns-then-byte-lt128-clause-ok t c =
    let bytes : List ℕ = c.args.bytes.now in
    let at : ℕ = c.args.at in
    let split : drop at bytes ≡ c.from-byte.result ∷ drop (at + 1) bytes = first_split bytes at (omega arith) ∙ ap (λ (b : ℕ). b ∷ drop (at + 1) bytes) (sym c.from-byte.ensures) in
    read_last bytes at c.args.least c.args.most c.from-byte.result split (omega arith) c.if-byte-lt128.true c.if-byte-least.false c.if-byte-most.false

pub returns-then-most-low-clause-fault : goal.returns-then-most-low-clause-fault
returns-then-most-low-clause-fault t c =
    let bytes : List ℕ = c.args.bytes.now in
    let at : ℕ = c.args.at in
    let first = c.least_high-least_high.ensures in
    let split : drop at bytes ≡ c.from-byte.result ∷ drop (at + 1) bytes = first_split bytes at (omega arith) ∙ ap (λ (b : ℕ). b ∷ drop (at + 1) bytes) (sym c.from-byte.ensures) in
    read_outside bytes at c.args.least c.args.most c.from-byte.result split c.requires.some
    (inr (
      c.if-byte-lt128.false,
      λ h some reaches within. elim c.then-most-low.branch [
        | then-most-low-via-then-most-low w ↦ omega (arith, w.if-most-low.true, within)
        | then-most-low-via-else-most-low+then-most-low-2 w ↦ omega (arith, w.if-most-low-2.true, within, first.first h some reaches)
      ],
    ))

pub returns-in_err-high-clause-fault : goal.returns-in_err-high-clause-fault
returns-in_err-high-clause-fault t c =
    let bytes : List ℕ = c.args.bytes.now in
    let at : ℕ = c.args.at in
    let p = err_from_is_err_and c.from_residual.result c.from_residual.ensures.1 in
    let split : drop at bytes ≡ c.from-byte.result ∷ drop (at + 1) bytes = first_split bytes at (omega arith) ∙ ap (λ (b : ℕ). b ∷ drop (at + 1) bytes) (sym c.from-byte.ensures) in
    rw (p.1, p.2) (read_high bytes at c.args.least c.args.most c.least_high-least_high.result c.in_err-high.field-0.0.place c.from-byte.result split c.if-byte-lt128.false (omega arith) c.if-most-low.false
    c.least_high-least_high.ensures c.in_err-high.ensures.fault)

pub returns-clause-ok : goal.returns-clause-ok
returns-clause-ok t c =
    let bytes : List ℕ = c.args.bytes.now in
    let at : ℕ = c.args.at in
    let split : drop at bytes ≡ c.from-byte.result ∷ drop (at + 1) bytes = first_split bytes at (omega arith) ∙ ap (λ (b : ℕ). b ∷ drop (at + 1) bytes) (sym c.from-byte.ensures) in
    read_more bytes at c.args.least c.args.most c.least_high-least_high.result c.in_ok-high.high c.in_ok-high.next c.from-byte.result split c.if-byte-lt128.false (omega arith) c.if-most-low.false
    c.least_high-least_high.ensures c.in_ok-high.ensures.ok
