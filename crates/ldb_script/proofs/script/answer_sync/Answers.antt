use Rattle.std.proofs.Common.{◌≡◌, ℕ, List, subst}
use Rattle.std.specs.Prelude.{Result, IfOk}
use Rattle.lsm_bytes.specs.declared.no_memory.NoMemory.{NoMemory}
use Rattle.ldb_script.specs.Printed.{ok_line}
use Rattle.ldb_script.specs.declared.line.Command.TheVariants.{Sync}
use Rattle.ldb_script.proofs.Serving.{sync_answers, broken_answers}
use Rattle.ldb_script.proofs.script.answer_sync.Goals as goal

pub returns-in-Ok-clause-done : goal.returns-in-Ok-clause-done
returns-in-Ok-clause-done g c start outcome was =
    sync_answers start c.args.store.now c.sync.new.self outcome was c.ok_line.result c.made.result (c.in-Ok.ensures.syncs start outcome was)
    (λ t ok. subst (λ (r : Result (List ℕ) NoMemory). IfOk r (λ x. x ≡ ok_line)) ok c.ok_line.ensures) c.made.ensures

pub returns-in-Err-clause-done : goal.returns-in-Err-clause-done
returns-in-Err-clause-done g c start outcome was =
    broken_answers start c.args.store.now c.sync.new.self outcome was Sync c.in-Err.error c.broken.result (c.in-Err.ensures.syncs start outcome was) c.broken.ensures
