use Rattle.std.proofs.Common.{◌≡◌, ◌∙◌, [], ℕ, List, refl, ap, subst}
use Rattle.std.specs.Prelude.{Result, IfOk}
use Rattle.lsm_bytes.specs.declared.no_memory.NoMemory.{NoMemory}
use Rattle.lsm_rows.specs.declared.operations.Op.{Op}
use Rattle.lsm_rows.specs.declared.refusals.BatchRefusal.{BatchRefusal}
use Rattle.lsm_rows.specs.Limits.{Refused}
use Rattle.ldb_script.specs.Plain.{first_refusal}
use Rattle.ldb_script.specs.Printed.{too_large_line}
use Rattle.ldb_script.specs.Doing.{StoreAnsweredOr, BuildsOr}
use Rattle.ldb_script.specs.declared.line.Command.TheVariants.{Write}
use Rattle.ldb_script.proofs.Serving.{too_large_answers}
use Rattle.ldb_script.proofs.script.answer_write.Goals as goal

pub returns-in-Ok-clause-done : goal.returns-in-Ok-clause-done
returns-in-Ok-clause-done g c start outcome was =
    let is : c.in-Ok.batch ≡ c.args.ops.now = c.in-Ok.ensures.0 in
    subst (λ (b : List Op). StoreAnsweredOr start c.args.store.now c.answer_batch.new.store outcome (Write c.args.durable b) c.answer_batch.result) is
    (c.answer_batch.ensures.done start outcome was (ap (first_refusal []) is ∙ c.in-Ok.ensures.1))

pub returns-in-Err-BatchTooLarge-clause-done : goal.returns-in-Err-BatchTooLarge-clause-done
returns-in-Err-BatchTooLarge-clause-done g c start outcome was =
    let refused : Refused = record { what = c.in-Err-BatchTooLarge.what; kept = c.in-Err-BatchTooLarge.kept; limit = c.in-Err-BatchTooLarge.limit } in
    too_large_answers start c.args.store.now c.args.store.now outcome was c.args.durable c.args.ops.now refused c.too_large_line.result c.made.result refl
    (subst (λ (e : BatchRefusal). BuildsOr c.args.ops.now (Result.Err e)) c.in-Err-BatchTooLarge.field-0-is c.in-Err-BatchTooLarge.ensures)
    (λ t ok. subst (λ (r : Result (List ℕ) NoMemory). IfOk r (λ x. x ≡ too_large_line refused)) ok c.too_large_line.ensures) c.made.ensures
