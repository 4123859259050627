use Rattle.std.proofs.Common.{◌≡◌, ℕ, List, ◌+◌, ◌<◌, ◌≤◌, length, take, drop, subst, sym, ap, ◌∙◌}
use Rattle.lsm_rows.specs.Pieces.{IsSizedAt}
use Rattle.std.proofs.lemmas.Result.{err_from_is_err_and}
use Rattle.lsm_rows.proofs.ReadSized.{length_fault, early_end, sized_at}
use Rattle.lsm_rows.proofs.lengths.read_sized.Goals as goal

pub returns-in_err-len-clause-fault : goal.returns-in_err-len-clause-fault
returns-in_err-len-clause-fault c =
    let p = err_from_is_err_and c.from_residual.result c.from_residual.ensures.1 in
    rw (p.1, p.2) (length_fault c.args.bytes.now c.args.at c.args.most c.in_err-len.field-0.0.place c.in_err-len.ensures.fault)

pub returns-then-rest-len-clause-fault : goal.returns-then-rest-len-clause-fault
returns-then-rest-len-clause-fault c =
    let back : c.split_at.result.1.now ≡ drop c.in_ok-len.start c.args.bytes.now = c.split_at.ensures.back in
    early_end c.args.bytes.now c.args.at c.args.most c.in_ok-len.len c.in_ok-len.start c.requires.at c.in_ok-len.ensures.ok (subst (λ (l : List ℕ). length l < c.in_ok-len.len) back c.if-rest-len.true)

pub returns-clause-ok : goal.returns-clause-ok
returns-clause-ok c =
    let back : c.split_at.result.1.now ≡ drop c.in_ok-len.start c.args.bytes.now = c.split_at.ensures.back in
    let front : c.split_at-2.result.0.now ≡ take c.in_ok-len.len c.split_at.result.1.now = c.split_at-2.ensures.front in
    subst (λ (value : List ℕ). IsSizedAt c.args.bytes.now c.args.at c.args.most value (c.in_ok-len.start + c.in_ok-len.len)) (sym (front ∙ ap (take c.in_ok-len.len) back))
    (sized_at c.args.bytes.now c.args.at c.args.most c.in_ok-len.len c.in_ok-len.start c.in_ok-len.ensures.ok (subst (λ (l : List ℕ). c.in_ok-len.len ≤ length l) back c.if-rest-len.false))
