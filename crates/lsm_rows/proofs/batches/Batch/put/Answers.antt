use Rattle.std.proofs.Common.{List, sym, ap, ◌∙◌}
use Rattle.std.proofs.lemmas.Result.{err_from_is_err_and}
use Rattle.lsm_rows.specs.declared.operations.Op.{Op}
use Rattle.lsm_rows.specs.declared.operations.Op.TheVariants.{Put}
use Rattle.lsm_rows.specs.Limits.{refusal_of}
use Rattle.lsm_rows.proofs.BatchSizes.{refused_no_memory, refused_ok, refused_through}
use Rattle.lsm_rows.proofs.batches.Batch.put.Goals as goal

pub returns-in_err-size-clause-refused : goal.returns-in_err-size-clause-refused
returns-in_err-size-clause-refused c =
    let p = err_from_is_err_and c.from_residual.result c.from_residual.ensures.1 in
    refused_through _ _ _ p.1 p.2 ∙ c.in_err-size.ensures.refused ∙ ap (λ (ops : List Op). refusal_of ops (Put c.args.key.now c.args.value.now)) (c.deref.ensures.value ∙ c.self.view_is)

pub returns-in_err-key-clause-refused : goal.returns-in_err-key-clause-refused
returns-in_err-key-clause-refused c =
    let p = err_from_is_err_and c.from_residual-in_err-key.result c.from_residual-in_err-key.ensures.1 in
    refused_no_memory _ _ p.1 p.2 ∙ sym (refused_ok c.in_ok-size.size) ∙ c.in_ok-size.ensures.refused ∙ ap (λ (ops : List Op). refusal_of ops (Put c.args.key.now c.args.value.now)) (c.deref.ensures.value ∙ c.self.view_is)

pub returns-in_err-value-clause-refused : goal.returns-in_err-value-clause-refused
returns-in_err-value-clause-refused c =
    let p = err_from_is_err_and c.from_residual-in_err-value.result c.from_residual-in_err-value.ensures.1 in
    refused_no_memory _ _ p.1 p.2 ∙ sym (refused_ok c.in_ok-size.size) ∙ c.in_ok-size.ensures.refused ∙ ap (λ (ops : List Op). refusal_of ops (Put c.args.key.now c.args.value.now)) (c.deref.ensures.value ∙ c.self.view_is)

pub returns-in_err-push-clause-refused : goal.returns-in_err-push-clause-refused
returns-in_err-push-clause-refused c =
    let p = err_from_is_err_and c.from_residual-in_err-push.result c.from_residual-in_err-push.ensures.1 in
    refused_no_memory _ _ p.1 p.2 ∙ sym (refused_ok c.in_ok-size.size) ∙ c.in_ok-size.ensures.refused ∙ ap (λ (ops : List Op). refusal_of ops (Put c.args.key.now c.args.value.now)) (c.deref.ensures.value ∙ c.self.view_is)

pub returns-clause-refused : goal.returns-clause-refused
returns-clause-refused c = refused_ok _ ∙ sym (refused_ok c.in_ok-size.size) ∙ c.in_ok-size.ensures.refused ∙ ap (λ (ops : List Op). refusal_of ops (Put c.args.key.now c.args.value.now)) (c.deref.ensures.value ∙ c.self.view_is)
