use Rattle.std.proofs.Common.{◌≡◌, ℕ, List, subst}
use Rattle.std.specs.Prelude.{Result, IfOk}
use Rattle.lsm_bytes.specs.declared.no_memory.NoMemory.{NoMemory}
use Rattle.ldb_script.specs.Printed.{sequence_line}
use Rattle.ldb_script.specs.declared.line.Command.TheVariants.{Write}
use Rattle.ldb_script.proofs.Serving.{write_answers, broken_answers}
use Rattle.ldb_script.proofs.script.answer_batch.Goals as goal

pub returns-in-Ok-clause-done : goal.returns-in-Ok-clause-done
returns-in-Ok-clause-done g c start outcome was fits =
    write_answers start c.args.store.now c.write.new.self outcome was c.args.durable c.args.batch.now c.in-Ok.last c.sequence_line.result c.made.result fits (c.in-Ok.ensures.writes start outcome was)
    (λ t ok. subst (λ (r : Result (List ℕ) NoMemory). IfOk r (λ x. x ≡ sequence_line c.in-Ok.last)) ok c.sequence_line.ensures) c.made.ensures

pub returns-in-Err-clause-done : goal.returns-in-Err-clause-done
returns-in-Err-clause-done g c start outcome was fits =
    broken_answers start c.args.store.now c.write.new.self outcome was (Write c.args.durable c.args.batch.now) c.in-Err.error c.broken.result (c.in-Err.ensures.writes start outcome was) c.broken.ensures
