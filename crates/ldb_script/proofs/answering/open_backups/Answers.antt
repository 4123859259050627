use Rattle.ldb_script.proofs.Answered.{shut_breaks}
use Rattle.ldb_script.proofs.answering.open_backups.Goals as goal

pub returns-in-Ok-clause-opened : goal.returns-in-Ok-clause-opened
returns-in-Ok-clause-opened g c origin shown before after outcome command of_backups stands backs tells = c.in-Ok.ensures.opened origin.backups outcome.after tells backs

pub returns-in-Err-clause-opened : goal.returns-in-Err-clause-opened
returns-in-Err-clause-opened g c origin shown before after outcome command of_backups stands backs tells =
    shut_breaks origin shown c.args.backups.now c.open.new.self before after outcome command of_backups stands c.in-Err.why c.shut.result c.shut.ensures (c.in-Err.ensures.opened origin.backups outcome.after tells backs)
