use Rattle.std.proofs.Common.{ap, ◌∙◌, refl}
use Rattle.std.proofs.lemmas.Result.{IfOk-weaker}
use Rattle.ldb_script.specs.Printed.{infos_text, list_text}
use Rattle.ldb_script.specs.declared.line.Command.TheVariants.{ListBackups}
use Rattle.ldb_script.proofs.Answered.{told_of, answered_later, told_same, at_opened, made_text}
use Rattle.ldb_script.specs.Tools.{tools}
use Rattle.ldb_script.proofs.answering.answer_list.Goals as goal

pub returns-in-Ok-list-clause-done : goal.returns-in-Ok-list-clause-done
returns-in-Ok-list-clause-done g c origin shown clock outcome was =
    let old = c.args.backups.now in
    let mid = c.open_backups.new.backups in
    let ready = c.in-Ok.ensures.opened origin shown clock clock outcome ListBackups tt was.store was.backups (told_of origin (tools shown old clock) outcome was) in
    answered_later origin shown old mid clock (tools shown mid clock) outcome ListBackups c.in-Ok.ensures.counts c.made.result
    (told_same origin shown shown mid mid clock outcome ListBackups (at_opened origin shown old mid clock outcome was ready.backs) was.store ready.backs (list_text outcome.after.backups) c.made.result
    (made_text (list_text outcome.after.backups) c.list_text.result c.made.result
    (IfOk-weaker c.list_text.result _ _ (λ t is. is ∙ ap infos_text c.as_slice.ensures ∙ c.in-Ok-list.ensures.told origin.backups outcome.after ready.backs) c.list_text.ensures) c.made.ensures) refl)

pub returns-in-Err-clause-done : goal.returns-in-Err-clause-done
returns-in-Err-clause-done g c origin shown clock outcome was = c.in-Err.ensures.opened origin shown clock clock outcome ListBackups tt was.store was.backups (told_of origin (tools shown c.args.backups.now clock) outcome was)
