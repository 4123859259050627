use Rattle.std.proofs.Common.{◌≡◌, ◌≢◌, ℕ, List, ◌∷◌, ◌+◌, ◌*◌, ◌/◌, ◌-◌, ◌<◌, ◌≤◌, drop, arith, ap, ◌∙◌}
use Rattle.std.proofs.lemmas.Result.{err_from_is_err_and}
use Rattle.lsm_rows.specs.Pieces.{IsByteAt}
use Rattle.lsm_rows.proofs.ReadHeader.{lower_fault, upper_fault, third_fault, fourth_fault, count_read, some_count}
use Rattle.lsm_rows.proofs.header.read_count.Goals as goal
use Rattle.lsm_rows.proofs.header.read_count.Goals.{then-most-lt256, else-most-lt256, then-lower-eq0, else-lower-eq0}

pub returns-in_err-lower-clause-fault : goal.returns-in_err-lower-clause-fault
returns-in_err-lower-clause-fault c =
    let p = err_from_is_err_and c.from_residual.result c.from_residual.ensures.1 in
    let less : c.args.most < 256 → c.if-most-lt256.least_lower ≡ 1 =
    elim c.if-most-lt256.branch [ then-most-lt256 w ↦ λ _. w.least_lower-is | else-most-lt256 w ↦ λ below. absurd (omega (arith, w.if-most-lt256.false)) ] in
    let more : 256 ≤ c.args.most → c.if-most-lt256.least_lower ≡ 0 =
    elim c.if-most-lt256.branch [ then-most-lt256 w ↦ λ above. absurd (omega (arith, w.if-most-lt256.true)) | else-most-lt256 w ↦ λ _. w.least_lower-is ] in
    rw (p.1, p.2) (lower_fault c.args.bytes.now c.args.most c.if-most-lt256.least_lower c.in_err-lower.field-0.0.place c.requires.some c.requires.most less more c.in_err-lower.ensures.fault)

pub returns-in_err-upper-clause-fault : goal.returns-in_err-upper-clause-fault
returns-in_err-upper-clause-fault c =
    let p = err_from_is_err_and c.from_residual-in_err-upper.result c.from_residual-in_err-upper.ensures.1 in
    let lower_at : IsByteAt c.args.bytes.now 8 c.if-most-lt256.least_lower c.args.most c.in_ok-lower.lower = c.in_ok-lower.ensures.ok in
    let zero_lower : c.in_ok-lower.lower ≡ 0 → c.if-lower-eq0.least_upper ≡ 1 =
    elim c.if-lower-eq0.branch [ then-lower-eq0 w ↦ λ _. w.least_upper-is | else-lower-eq0 w ↦ λ none. absurd (w.if-lower-eq0.false none) ] in
    let some_lower : c.in_ok-lower.lower ≢ 0 → c.if-lower-eq0.least_upper ≡ 0 =
    elim c.if-lower-eq0.branch [ then-lower-eq0 w ↦ λ some. absurd (some w.if-lower-eq0.true) | else-lower-eq0 w ↦ λ _. w.least_upper-is ] in
    rw (p.1, p.2) (upper_fault c.args.bytes.now c.args.most c.in_ok-lower.lower c.if-lower-eq0.least_upper c.in_err-upper.field-0.0.place c.requires.most lower_at.byte lower_at.high zero_lower some_lower lower_at.text c.in_err-upper.ensures.fault)

pub returns-in_err-read_byte-clause-fault : goal.returns-in_err-read_byte-clause-fault
returns-in_err-read_byte-clause-fault c =
    let p = err_from_is_err_and c.from_residual-in_err-read_byte.result c.from_residual-in_err-read_byte.ensures.1 in
    let lower_at : IsByteAt c.args.bytes.now 8 c.if-most-lt256.least_lower c.args.most c.in_ok-lower.lower = c.in_ok-lower.ensures.ok in
    let zero_lower : c.in_ok-lower.lower ≡ 0 → c.if-lower-eq0.least_upper ≡ 1 =
    elim c.if-lower-eq0.branch [ then-lower-eq0 w ↦ λ _. w.least_upper-is | else-lower-eq0 w ↦ λ none. absurd (w.if-lower-eq0.false none) ] in
    let upper_at : IsByteAt c.args.bytes.now 9 c.if-lower-eq0.least_upper ((c.args.most - c.in_ok-lower.lower) / 256) c.in_ok-upper.upper = c.in_ok-upper.ensures.ok in
    let some : 1 ≤ c.in_ok-lower.lower + 256 * c.in_ok-upper.upper = some_count c.in_ok-lower.lower c.in_ok-upper.upper c.if-lower-eq0.least_upper zero_lower upper_at.low in
    let fits : c.in_ok-lower.lower + 256 * c.in_ok-upper.upper ≤ c.args.most = omega (arith, upper_at.high, lower_at.high) in
    let two : drop 8 c.args.bytes.now ≡ c.in_ok-lower.lower ∷ c.in_ok-upper.upper ∷ drop 10 c.args.bytes.now = lower_at.text ∙ ap (λ (s : List ℕ). c.in_ok-lower.lower ∷ s) upper_at.text in
    rw (p.1, p.2) (third_fault c.args.bytes.now c.args.most c.in_ok-lower.lower c.in_ok-upper.upper c.in_err-read_byte.field-0.0.place c.requires.most lower_at.byte some fits two c.in_err-read_byte.ensures.fault)

pub returns-in_err-read_byte-2-clause-fault : goal.returns-in_err-read_byte-2-clause-fault
returns-in_err-read_byte-2-clause-fault c =
    let p = err_from_is_err_and c.from_residual-in_err-read_byte-2.result c.from_residual-in_err-read_byte-2.ensures.1 in
    let lower_at : IsByteAt c.args.bytes.now 8 c.if-most-lt256.least_lower c.args.most c.in_ok-lower.lower = c.in_ok-lower.ensures.ok in
    let zero_lower : c.in_ok-lower.lower ≡ 0 → c.if-lower-eq0.least_upper ≡ 1 =
    elim c.if-lower-eq0.branch [ then-lower-eq0 w ↦ λ _. w.least_upper-is | else-lower-eq0 w ↦ λ none. absurd (w.if-lower-eq0.false none) ] in
    let upper_at : IsByteAt c.args.bytes.now 9 c.if-lower-eq0.least_upper ((c.args.most - c.in_ok-lower.lower) / 256) c.in_ok-upper.upper = c.in_ok-upper.ensures.ok in
    let some : 1 ≤ c.in_ok-lower.lower + 256 * c.in_ok-upper.upper = some_count c.in_ok-lower.lower c.in_ok-upper.upper c.if-lower-eq0.least_upper zero_lower upper_at.low in
    let fits : c.in_ok-lower.lower + 256 * c.in_ok-upper.upper ≤ c.args.most = omega (arith, upper_at.high, lower_at.high) in
    let two : drop 8 c.args.bytes.now ≡ c.in_ok-lower.lower ∷ c.in_ok-upper.upper ∷ drop 10 c.args.bytes.now = lower_at.text ∙ ap (λ (s : List ℕ). c.in_ok-lower.lower ∷ s) upper_at.text in
    let third : IsByteAt c.args.bytes.now 10 0 0 c.in_ok-read_byte.field-0 = c.in_ok-read_byte.ensures.ok in
    let none : c.in_ok-read_byte.field-0 ≡ 0 = omega (arith, third.high) in
    let three : drop 8 c.args.bytes.now ≡ c.in_ok-lower.lower ∷ c.in_ok-upper.upper ∷ 0 ∷ drop 11 c.args.bytes.now =
    two ∙ ap (λ (s : List ℕ). c.in_ok-lower.lower ∷ c.in_ok-upper.upper ∷ s) (third.text ∙ ap (λ (b : ℕ). b ∷ drop 11 c.args.bytes.now) none) in
    rw (p.1, p.2) (fourth_fault c.args.bytes.now c.args.most c.in_ok-lower.lower c.in_ok-upper.upper c.in_err-read_byte-2.field-0.0.place c.requires.most lower_at.byte some fits three c.in_err-read_byte-2.ensures.fault)

pub returns-clause-some : goal.returns-clause-some
returns-clause-some c =
    let lower_at : IsByteAt c.args.bytes.now 8 c.if-most-lt256.least_lower c.args.most c.in_ok-lower.lower = c.in_ok-lower.ensures.ok in
    let zero_lower : c.in_ok-lower.lower ≡ 0 → c.if-lower-eq0.least_upper ≡ 1 =
    elim c.if-lower-eq0.branch [ then-lower-eq0 w ↦ λ _. w.least_upper-is | else-lower-eq0 w ↦ λ none. absurd (w.if-lower-eq0.false none) ] in
    let upper_at : IsByteAt c.args.bytes.now 9 c.if-lower-eq0.least_upper ((c.args.most - c.in_ok-lower.lower) / 256) c.in_ok-upper.upper = c.in_ok-upper.ensures.ok in
    let some : 1 ≤ c.in_ok-lower.lower + 256 * c.in_ok-upper.upper = some_count c.in_ok-lower.lower c.in_ok-upper.upper c.if-lower-eq0.least_upper zero_lower upper_at.low in
    let fits : c.in_ok-lower.lower + 256 * c.in_ok-upper.upper ≤ c.args.most = omega (arith, upper_at.high, lower_at.high) in
    let two : drop 8 c.args.bytes.now ≡ c.in_ok-lower.lower ∷ c.in_ok-upper.upper ∷ drop 10 c.args.bytes.now = lower_at.text ∙ ap (λ (s : List ℕ). c.in_ok-lower.lower ∷ s) upper_at.text in
    some

pub returns-clause-text : goal.returns-clause-text
returns-clause-text c =
    let lower_at : IsByteAt c.args.bytes.now 8 c.if-most-lt256.least_lower c.args.most c.in_ok-lower.lower = c.in_ok-lower.ensures.ok in
    let zero_lower : c.in_ok-lower.lower ≡ 0 → c.if-lower-eq0.least_upper ≡ 1 =
    elim c.if-lower-eq0.branch [ then-lower-eq0 w ↦ λ _. w.least_upper-is | else-lower-eq0 w ↦ λ none. absurd (w.if-lower-eq0.false none) ] in
    let upper_at : IsByteAt c.args.bytes.now 9 c.if-lower-eq0.least_upper ((c.args.most - c.in_ok-lower.lower) / 256) c.in_ok-upper.upper = c.in_ok-upper.ensures.ok in
    let some : 1 ≤ c.in_ok-lower.lower + 256 * c.in_ok-upper.upper = some_count c.in_ok-lower.lower c.in_ok-upper.upper c.if-lower-eq0.least_upper zero_lower upper_at.low in
    let fits : c.in_ok-lower.lower + 256 * c.in_ok-upper.upper ≤ c.args.most = omega (arith, upper_at.high, lower_at.high) in
    let two : drop 8 c.args.bytes.now ≡ c.in_ok-lower.lower ∷ c.in_ok-upper.upper ∷ drop 10 c.args.bytes.now = lower_at.text ∙ ap (λ (s : List ℕ). c.in_ok-lower.lower ∷ s) upper_at.text in
    let third : IsByteAt c.args.bytes.now 10 0 0 c.in_ok-read_byte.field-0 = c.in_ok-read_byte.ensures.ok in
    let none : c.in_ok-read_byte.field-0 ≡ 0 = omega (arith, third.high) in
    let three : drop 8 c.args.bytes.now ≡ c.in_ok-lower.lower ∷ c.in_ok-upper.upper ∷ 0 ∷ drop 11 c.args.bytes.now =
    two ∙ ap (λ (s : List ℕ). c.in_ok-lower.lower ∷ c.in_ok-upper.upper ∷ s) (third.text ∙ ap (λ (b : ℕ). b ∷ drop 11 c.args.bytes.now) none) in
    let fourth : IsByteAt c.args.bytes.now 11 0 0 c.in_ok-read_byte-2.field-0 = c.in_ok-read_byte-2.ensures.ok in
    let naught : c.in_ok-read_byte-2.field-0 ≡ 0 = omega (arith, fourth.high) in
    let four : drop 8 c.args.bytes.now ≡ c.in_ok-lower.lower ∷ c.in_ok-upper.upper ∷ 0 ∷ 0 ∷ drop 12 c.args.bytes.now =
    three ∙ ap (λ (s : List ℕ). c.in_ok-lower.lower ∷ c.in_ok-upper.upper ∷ 0 ∷ s) (fourth.text ∙ ap (λ (b : ℕ). b ∷ drop 12 c.args.bytes.now) naught) in
    count_read c.args.bytes.now c.in_ok-lower.lower c.in_ok-upper.upper lower_at.byte upper_at.byte four
