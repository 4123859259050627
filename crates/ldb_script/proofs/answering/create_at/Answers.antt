use Rattle.std.proofs.Common.{◌∙◌}
use Rattle.ldb_script.specs.Printed.{backup_line}
use Rattle.ldb_script.proofs.Answered.{are_plain, create_answers, uncreated_answers, unviewed_answers, line_untouched, made_text}
use Rattle.ldb_script.proofs.answering.create_at.Goals as goal
use Rattle.lsm_frame.proofs.Going.{rose_later}

pub returns-in-Err-clause-done : goal.returns-in-Err-clause-done
returns-in-Err-clause-done g c origin before after outcome left stands backs =
    unviewed_answers origin c.args.store.now c.files.new.self c.args.backups.now c.args.backups.now before after outcome c.args.now left c.in-Err.error c.broken.result c.broken.ensures (c.in-Err.ensures.refused origin.store outcome stands)

pub returns-in-Ok-create-clause-done : goal.returns-in-Ok-create-clause-done
returns-in-Ok-create-clause-done g c origin before after outcome left stands backs =
    let viewed = c.in-Ok.ensures.stands origin.store outcome stands in
    let made = c.in-Ok-create.ensures.created origin.backups outcome.after left backs (c.sequence.ensures ∙ viewed.sequence) (are_plain origin.store c.args.store.now outcome _ _ stands (c.in-Ok.ensures.views origin.store outcome stands)) in
    create_answers origin c.args.store.now c.files.new.self c.args.backups.now c.create.new.self before after outcome c.args.now left c.in-Ok-create.info.id c.in-Ok-create.info.sequence c.made.result made.room
    (made_text (backup_line c.in-Ok-create.info.id c.in-Ok-create.info.sequence) c.backup_line.result c.made.result c.backup_line.ensures c.made.ensures) viewed made.id made.sequence made.backs

pub returns-in-Err-create-clause-done : goal.returns-in-Err-create-clause-done
returns-in-Err-create-clause-done g c origin before after outcome left stands backs =
    let viewed = c.in-Ok.ensures.stands origin.store outcome stands in
    uncreated_answers origin c.args.store.now c.take_back.new.self c.args.backups.now c.create.new.self before after outcome c.args.now left _
    (λ faulty. rose_later c.args.store.now.disk.faults c.files.new.self.disk.faults c.take_back.new.self.disk.faults c.in-Ok.ensures.line.counts.faults (c.take_back.ensures.faults faulty))
    (c.take_back.ensures.stands origin.store outcome viewed) backs c.in-Err-create.field-0.why c.uncreated.result (c.in-Err-create.ensures.refused origin.backups outcome.after backs) c.uncreated.ensures

pub returns-in-Err-create-clause-line : goal.returns-in-Err-create-clause-line
returns-in-Err-create-clause-line g c = line_untouched c.args.store.now c.files.new.self c.take_back.new.self c.in-Ok.ensures.line c.take_back.ensures.untouched c.take_back.ensures.counts
