use Rattle.std.proofs.Common.{◌+◌, sym, ◌∙◌, arith}
use Rattle.lsm_rows.proofs.BatchSizes.{delete_longer, key_refused, count_refused, bytes_refused, none_refused, InLimits-push, refused_too_large, refused_ok}
use Rattle.std.proofs.lemmas.Result.{err_from_is_err_and}
use Rattle.lsm_rows.specs.declared.operations.Op.TheVariants.{Delete}
use Rattle.lsm_rows.proofs.batches.size_with_delete.Goals as goal

pub returns-in_err-test_limit-clause-refused : goal.returns-in_err-test_limit-clause-refused
returns-in_err-test_limit-clause-refused c =
    let p = err_from_is_err_and c.from_residual.result c.from_residual.ensures.1 in
    refused_too_large _ _ _ _ _ p.1 (p.2 ∙ c.in_err-test_limit.ensures.0) ∙ sym (key_refused c.args.ops.now (Delete c.args.key.now) c.in_err-test_limit.ensures.1)

pub returns-in_err-test_limit-2-clause-refused : goal.returns-in_err-test_limit-2-clause-refused
returns-in_err-test_limit-2-clause-refused c =
    let p = err_from_is_err_and c.from_residual-in_err-test_limit-2.result c.from_residual-in_err-test_limit-2.ensures.1 in
    refused_too_large _ _ _ _ _ p.1 (p.2 ∙ c.in_err-test_limit-2.ensures.0) ∙ sym (count_refused c.args.ops.now (Delete c.args.key.now) (record { key = c.in_ok-test_limit.ensures; value = omega arith }) c.in_err-test_limit-2.ensures.1)

pub returns-in_err-test_limit-3-clause-refused : goal.returns-in_err-test_limit-3-clause-refused
returns-in_err-test_limit-3-clause-refused c =
    let p = err_from_is_err_and c.from_residual-in_err-test_limit-3.result c.from_residual-in_err-test_limit-3.ensures.1 in
    refused_too_large _ _ _ _ _ p.1 (p.2 ∙ c.in_err-test_limit-3.ensures.0)
    ∙ sym (bytes_refused c.args.ops.now (Delete c.args.key.now) (c.args.size + 1 + c.sized_len.result) (record { key = c.in_ok-test_limit.ensures; value = omega arith }) c.in_ok-test_limit-2.ensures (delete_longer c.args.ops.now c.args.key.now c.args.size c.sized_len.result c.requires.size c.sized_len.ensures.len) c.in_err-test_limit-3.ensures.1)

pub returns-clause-size : goal.returns-clause-size
returns-clause-size c = sym (delete_longer c.args.ops.now c.args.key.now c.args.size c.sized_len.result c.requires.size c.sized_len.ensures.len)

pub returns-clause-limits : goal.returns-clause-limits
returns-clause-limits c =
    InLimits-push c.args.ops.now (Delete c.args.key.now) (c.args.size + 1 + c.sized_len.result) c.requires.limits (record { key = c.in_ok-test_limit.ensures; value = omega arith }) c.in_ok-test_limit-2.ensures (delete_longer c.args.ops.now c.args.key.now c.args.size c.sized_len.result c.requires.size c.sized_len.ensures.len) c.in_ok-test_limit-3.ensures

pub returns-clause-refused : goal.returns-clause-refused
returns-clause-refused c =
    refused_ok _ ∙ sym (none_refused c.args.ops.now (Delete c.args.key.now) (c.args.size + 1 + c.sized_len.result) (record { key = c.in_ok-test_limit.ensures; value = omega arith }) c.in_ok-test_limit-2.ensures (delete_longer c.args.ops.now c.args.key.now c.args.size c.sized_len.result c.requires.size c.sized_len.ensures.len) c.in_ok-test_limit-3.ensures)
