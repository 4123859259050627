use Rattle.std.proofs.Common.{◌≡◌, ◌+◌, length, ℕ, ap, ◌∙◌, arith}
use Rattle.lsm_rows.proofs.BatchSizes.{one_byte, two_bytes, three_bytes, sized-len}
use Rattle.lsm_rows.specs.BatchText.{sized}
use Rattle.lsm_rows.proofs.batches.sized_len.Goals as goal
use Rattle.lsm_rows.proofs.batches.sized_len.Goals.{then-len-lt128, else-len-lt128+then-len-lt16384, else-len-lt128+else-len-lt16384}

pub returns-clause-len : goal.returns-clause-len
returns-clause-len c =
    let n : ℕ = length c.args.bytes.now in
    elim c.if-len-lt128.branch [
      | then-len-lt128 w ↦ let e : length (sized c.args.bytes.now) ≡ 1 + n = sized-len c.args.bytes.now ∙ ap (λ (k : ℕ). k + n) (one_byte n (omega arith)) in omega arith
      | else-len-lt128+then-len-lt16384 w ↦ let e : length (sized c.args.bytes.now) ≡ 2 + n = sized-len c.args.bytes.now ∙ ap (λ (k : ℕ). k + n) (two_bytes n (omega arith) (omega arith)) in omega arith
      | else-len-lt128+else-len-lt16384 w ↦ let e : length (sized c.args.bytes.now) ≡ 3 + n = sized-len c.args.bytes.now ∙ ap (λ (k : ℕ). k + n) (three_bytes n (omega arith) (omega arith)) in omega arith
    ]
