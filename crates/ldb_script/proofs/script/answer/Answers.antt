use Rattle.std.proofs.Common.{subst, sym}
use Rattle.ldb_script.specs.Run.{Stream}
use Rattle.ldb_script.specs.Tools.{tools}
use Rattle.ldb_script.specs.Doing.{AnsweredOr}
use Rattle.ldb_script.specs.declared.line.Command.{Command}
use Rattle.ldb_script.proofs.script.answer.Goals as goal

pub returns-in-RestoreBackup-clause-done : goal.returns-in-RestoreBackup-clause-done
returns-in-RestoreBackup-clause-done g c origin outcome was =
    let clock : Stream = record { bytes = g.C.Clock.left c.args.clock.now; faults = g.C.Clock.faults c.args.clock.now } in
    subst (λ (command : Command). AnsweredOr origin (tools c.args.place.now c.args.backups.now clock) (tools c.answer_restore.new.place c.answer_restore.new.backups clock) outcome command c.answer_restore.result)
    (sym c.in-RestoreBackup.is) (c.answer_restore.ensures.done origin clock outcome was)
