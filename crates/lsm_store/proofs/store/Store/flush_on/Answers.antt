-- Each exit is a lemma of `Flushes`, behind the writing of the table.
use Rattle.lsm_store.proofs.Flushes.{installed_after, refused_after, refused_before}
use Rattle.lsm_store.proofs.store.Store.flush_on.Goals as goal

pub returns-in-Ok-clause-ok : goal.returns-in-Ok-clause-ok
returns-in-Ok-clause-ok g c =
    installed_after c.args.self.now c.write_table.new.self c.end_table.new.self c.requires.begun c.in-Ok-Some.ensures.ok
    c.in-Ok.ensures.ok

pub returns-in-Err-end_table-clause-err : goal.returns-in-Err-end_table-clause-err
returns-in-Err-end_table-clause-err g c =
    refused_after c.args.self.now c.write_table.new.self c.end_table.new.self c.requires.begun c.in-Ok-Some.ensures.ok
    c.in-Err-end_table.refused c.in-Err-end_table.ensures.err

pub returns-in-Err-clause-err : goal.returns-in-Err-clause-err
returns-in-Err-clause-err g c =
    refused_before c.args.self.now c.write_table.new.self c.in-Err.refused c.in-Err.ensures.err
