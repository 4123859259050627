use Rattle.std.proofs.Common.{◌≡◌, ℕ, List, ◌+◌, ◌-◌, ◌<◌, ◌≤◌, length, take, drop, get_or, get_or-drop, subst, sym, ap, ◌∙◌, arith}
use Rattle.std.proofs.lemmas.Result.{err_from_is_err_and}
use Rattle.lsm_rows.proofs.ReadHeader.{Bytes}
use Rattle.lsm_version.specs.Reading.{IsKeyAt}
use Rattle.lsm_version.proofs.ReadKeys.{key_len_fault, kind_fault, key_early, key_at, past_end}
use Rattle.lsm_version.proofs.table_reading.read_key.Goals as goal
use Rattle.lsm_version.proofs.table_reading.read_key.Goals.{else-kind_at-rest-via-then-kind_at-rest+else-rest-kind_at-gt1, else-kind_at-rest-via-else-kind_at-rest}

pub returns-in_err-len-clause-fault : goal.returns-in_err-len-clause-fault
returns-in_err-len-clause-fault c =
    let p = err_from_is_err_and c.from_residual.result c.from_residual.ensures.1 in
    rw (p.1, p.2) (key_len_fault c.args.bytes.now c.args.at c.in_err-len.field-0.0.place c.in_err-len.ensures.fault)

pub returns-then-rest-kind_at-gt1-clause-fault : goal.returns-then-rest-kind_at-gt1-clause-fault
returns-then-rest-kind_at-gt1-clause-fault c =
    let bytes : List ℕ = c.args.bytes.now in
    let start : ℕ = c.in_ok-len.start in
    let back : c.split_at.result.1.now ≡ drop start bytes = c.split_at.ensures.back in
    let fits : Bytes (drop start bytes) = record { fit = λ i. omega (arith, get_or-drop start bytes i 0, c.type_inv.bytes (start + i)) } in
    kind_fault bytes c.args.at c.in_ok-len.len start c.in_ok-len.ensures.ok fits
    (subst (λ (l : List ℕ). c.in_ok-len.len - 8 < length l) back c.if-kind_at-rest.true)
    (subst (λ (l : List ℕ). 1 < get_or l (c.in_ok-len.len - 8) 0) back c.if-rest-kind_at-gt1.true)

pub returns-then-rest-len-clause-fault : goal.returns-then-rest-len-clause-fault
returns-then-rest-len-clause-fault c =
    let bytes : List ℕ = c.args.bytes.now in
    let start : ℕ = c.in_ok-len.start in
    let back : c.split_at.result.1.now ≡ drop start bytes = c.split_at.ensures.back in
    let fits : Bytes (drop start bytes) = record { fit = λ i. omega (arith, get_or-drop start bytes i 0, c.type_inv.bytes (start + i)) } in
    key_early bytes c.args.at c.in_ok-len.len start c.in_ok-len.ensures.ok fits
    (subst (λ (l : List ℕ). length l < c.in_ok-len.len) back c.if-rest-len.true)
    (subst (λ (l : List ℕ). get_or l (c.in_ok-len.len - 8) 0 ≤ 1) back (elim c.else-kind_at-rest.branch [
      | else-kind_at-rest-via-then-kind_at-rest+else-rest-kind_at-gt1 w ↦ w.if-rest-kind_at-gt1.false
      | else-kind_at-rest-via-else-kind_at-rest w ↦ omega (arith, past_end c.split_at.result.1.now (c.in_ok-len.len - 8) w.if-kind_at-rest.false)
    ]))

pub returns-clause-ok : goal.returns-clause-ok
returns-clause-ok c =
    let bytes : List ℕ = c.args.bytes.now in
    let start : ℕ = c.in_ok-len.start in
    let n : ℕ = c.in_ok-len.len in
    let back : c.split_at.result.1.now ≡ drop start bytes = c.split_at.ensures.back in
    let front : c.split_at-2.result.0.now ≡ take n c.split_at.result.1.now = c.split_at-2.ensures.front in
    let fits : Bytes (drop start bytes) = record { fit = λ i. omega (arith, get_or-drop start bytes i 0, c.type_inv.bytes (start + i)) } in
    subst (λ (value : List ℕ). IsKeyAt bytes c.args.at value (start + n)) (sym (front ∙ ap (take n) back))
    (key_at bytes c.args.at n start c.in_ok-len.ensures.ok fits
    (subst (λ (l : List ℕ). n ≤ length l) back c.if-rest-len.false)
    (subst (λ (l : List ℕ). get_or l (n - 8) 0 ≤ 1) back (elim c.else-kind_at-rest.branch [
      | else-kind_at-rest-via-then-kind_at-rest+else-rest-kind_at-gt1 w ↦ w.if-rest-kind_at-gt1.false
      | else-kind_at-rest-via-else-kind_at-rest w ↦ omega (arith, past_end c.split_at.result.1.now (n - 8) w.if-kind_at-rest.false)
    ])))
