use Rattle.ldb_script.specs.Printed.{restored_line}
use Rattle.ldb_script.specs.declared.line.Command.TheVariants.{RestoreBackup}
use Rattle.ldb_script.proofs.Answered.{told_of, answered_later, at_opened, made_text, restored_answers, unrestored_answers}
use Rattle.ldb_script.specs.Tools.{tools}
use Rattle.ldb_script.proofs.answering.answer_restore.Goals as goal

pub returns-in-Ok-restore-clause-done : goal.returns-in-Ok-restore-clause-done
returns-in-Ok-restore-clause-done g c origin clock outcome was =
    let old = c.args.backups.now in
    let mid = c.open_backups.new.backups in
    let name = c.args.name.now in
    let command = RestoreBackup c.args.id name in
    let ready = c.in-Ok.ensures.opened origin c.args.place.now clock clock outcome command tt was.store was.backups (told_of origin (tools c.args.place.now old clock) outcome was) in
    answered_later origin c.args.place.now old mid clock (tools c.restore.new.place c.restore.new.self clock) outcome command c.in-Ok.ensures.counts c.made.result
    (restored_answers origin c.args.place.now c.restore.new.place mid c.restore.new.self clock outcome c.args.id name (at_opened origin c.args.place.now old mid clock outcome was ready.backs)
    (c.in-Ok-restore.ensures.kept origin.backups outcome.after ready.backs) _ c.made.result (c.in-Ok-restore.ensures.restored origin.store origin.backups outcome was.store ready.backs)
    (made_text (restored_line c.args.id name) c.restored_line.result c.made.result c.restored_line.ensures c.made.ensures))

pub returns-in-Err-restore-clause-done : goal.returns-in-Err-restore-clause-done
returns-in-Err-restore-clause-done g c origin clock outcome was =
    let old = c.args.backups.now in
    let mid = c.open_backups.new.backups in
    let name = c.args.name.now in
    let command = RestoreBackup c.args.id name in
    let ready = c.in-Ok.ensures.opened origin c.args.place.now clock clock outcome command tt was.store was.backups (told_of origin (tools c.args.place.now old clock) outcome was) in
    answered_later origin c.args.place.now old mid clock (tools c.restore.new.place c.restore.new.self clock) outcome command c.in-Ok.ensures.counts c.unrestored.result
    (unrestored_answers origin c.args.place.now c.restore.new.place mid c.restore.new.self clock outcome c.args.id name (at_opened origin c.args.place.now old mid clock outcome was ready.backs)
    (c.in-Err-restore.ensures.kept origin.backups outcome.after ready.backs) c.in-Err-restore.why c.unrestored.result (c.in-Err-restore.ensures.restored origin.store origin.backups outcome was.store ready.backs) c.unrestored.ensures)

pub returns-in-Err-clause-done : goal.returns-in-Err-clause-done
returns-in-Err-clause-done g c origin clock outcome was =
    c.in-Err.ensures.opened origin c.args.place.now clock clock outcome (RestoreBackup c.args.id c.args.name.now) tt was.store was.backups (told_of origin (tools c.args.place.now c.args.backups.now clock) outcome was)
