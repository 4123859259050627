use Rattle.ldb_script.specs.Tools.{tools}
use Rattle.ldb_script.specs.declared.line.Command.TheVariants.{CreateBackup}
use Rattle.ldb_script.proofs.Answered.{created_later}
use Rattle.ldb_script.proofs.answering.create_opened.Goals as goal

pub returns-in-Ok-clause-done : goal.returns-in-Ok-clause-done
returns-in-Ok-clause-done g c origin before after outcome left stands backs tells =
    let ready = c.in-Ok.ensures.opened origin c.args.store.now before after outcome CreateBackup tt stands backs tells in
    created_later origin c.args.store.now c.args.backups.now c.open_backups.new.backups before (tools c.create_at.new.store c.create_at.new.backups after) outcome c.args.now left c.in-Ok.ensures.counts c.create_at.result
    (c.create_at.ensures.done origin before after outcome left stands ready.backs)

pub returns-in-Err-clause-done : goal.returns-in-Err-clause-done
returns-in-Err-clause-done g c origin before after outcome left stands backs tells = c.in-Err.ensures.opened origin c.args.store.now before after outcome CreateBackup tt stands backs tells
