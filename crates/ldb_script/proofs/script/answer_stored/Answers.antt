use Rattle.std.proofs.Common.{◌≡◌, ℕ, List, refl, subst, sym, ap, ◌∙◌, Bor}
use Rattle.std.specs.Prelude.{Result, IfOk}
use Rattle.std.specs.Option.{option_map}
use Rattle.std.specs.FinMap as finite
use Rattle.lsm_bytes.specs.declared.no_memory.NoMemory.{NoMemory}
use Rattle.ldb_script.specs.Printed.{value_line, scan_text, state_line}
use Rattle.ldb_script.specs.Run.{Stream}
use Rattle.ldb_script.specs.Tools.{tools}
use Rattle.ldb_script.specs.Doing.{AnsweredOr}
use Rattle.ldb_script.specs.declared.line.Command.{Command}
use Rattle.ldb_script.specs.declared.line.Command.TheVariants.{Write, Sync, Get, Scan, State, ShowFolder}
use Rattle.ldb_script.proofs.Serving.{get_answers, scan_answers, state_answers, lifted}
use Rattle.ldb_script.proofs.script.answer_stored.Goals as goal

pub returns-in-Write-clause-done : goal.returns-in-Write-clause-done
returns-in-Write-clause-done g c origin outcome was =
    let clock : Stream = record { bytes = g.C.Clock.left c.args.clock.now; faults = g.C.Clock.faults c.args.clock.now } in
    subst (λ (command : Command). AnsweredOr origin (tools c.args.store.now c.args.backups.now clock) (tools c.answer_write.new.store c.args.backups.now clock) outcome command c.answer_write.result)
    (ap (Write c.in-Write.durable) c.as_slice.ensures.ops ∙ sym c.in-Write.is)
    (lifted origin c.args.store.now c.answer_write.new.store c.args.backups.now clock outcome (Write c.in-Write.durable c.as_slice.result.now) was c.answer_write.result tt
    (c.answer_write.ensures.done origin.store outcome was.store))

pub returns-in-Sync-clause-done : goal.returns-in-Sync-clause-done
returns-in-Sync-clause-done g c origin outcome was =
    let clock : Stream = record { bytes = g.C.Clock.left c.args.clock.now; faults = g.C.Clock.faults c.args.clock.now } in
    subst (λ (command : Command). AnsweredOr origin (tools c.args.store.now c.args.backups.now clock) (tools c.answer_sync.new.store c.args.backups.now clock) outcome command c.answer_sync.result)
    (sym c.in-Sync.is)
    (lifted origin c.args.store.now c.answer_sync.new.store c.args.backups.now clock outcome (Sync) was c.answer_sync.result tt
    (c.answer_sync.ensures.done origin.store outcome was.store))

pub returns-in-Get-clause-done : goal.returns-in-Get-clause-done
returns-in-Get-clause-done g c origin outcome was =
    let clock : Stream = record { bytes = g.C.Clock.left c.args.clock.now; faults = g.C.Clock.faults c.args.clock.now } in
    subst (λ (command : Command). AnsweredOr origin (tools c.args.store.now c.args.backups.now clock) (tools c.args.store.now c.args.backups.now clock) outcome command c.made.result)
    (sym c.in-Get.is)
    (lifted origin c.args.store.now c.args.store.now c.args.backups.now clock outcome (Get c.in-Get.key) was c.made.result tt
    (get_answers origin.store c.args.store.now c.args.store.now outcome was.store c.in-Get.key (option_map (λ (v : Bor (List ℕ)). v.now) c.get.result) c.value_line.result c.made.result refl
    (c.get.ensures ∙ ap (finite.get c.args.store.now.contents) c.as_slice-in-Get.ensures)
    (λ t ok. subst (λ (r : Result (List ℕ) NoMemory). IfOk r (λ x. x ≡ value_line (option_map (λ (v : Bor (List ℕ)). v.now) c.get.result))) ok c.value_line.ensures) c.made.ensures))

pub returns-in-Scan-clause-done : goal.returns-in-Scan-clause-done
returns-in-Scan-clause-done g c origin outcome was =
    let clock : Stream = record { bytes = g.C.Clock.left c.args.clock.now; faults = g.C.Clock.faults c.args.clock.now } in
    subst (λ (command : Command). AnsweredOr origin (tools c.args.store.now c.args.backups.now clock) (tools c.args.store.now c.args.backups.now clock) outcome command c.made-in-Scan.result)
    (sym c.in-Scan.is)
    (lifted origin c.args.store.now c.args.store.now c.args.backups.now clock outcome (Scan) was c.made-in-Scan.result tt
    (scan_answers origin.store c.args.store.now c.args.store.now outcome was.store c.scan.result c.made-in-Scan.result refl
    (λ t ok. subst (λ (r : Result (List ℕ) NoMemory). IfOk r (λ x. x ≡ scan_text (finite.entries c.args.store.now.contents))) ok c.scan.ensures) c.made-in-Scan.ensures))

pub returns-in-State-clause-done : goal.returns-in-State-clause-done
returns-in-State-clause-done g c origin outcome was =
    let clock : Stream = record { bytes = g.C.Clock.left c.args.clock.now; faults = g.C.Clock.faults c.args.clock.now } in
    subst (λ (command : Command). AnsweredOr origin (tools c.args.store.now c.args.backups.now clock) (tools c.args.store.now c.args.backups.now clock) outcome command c.made-in-State.result)
    (sym c.in-State.is)
    (lifted origin c.args.store.now c.args.store.now c.args.backups.now clock outcome (State) was c.made-in-State.result tt
    (state_answers origin.store c.args.store.now c.args.store.now outcome was.store c.state_line.result c.made-in-State.result refl
    (λ t ok. subst (λ (r : Result (List ℕ) NoMemory). IfOk r (λ x. x ≡ state_line c.sequence.result c.count.result)) ok c.state_line.ensures ∙ (λ i. state_line (c.sequence.ensures i) (c.count.ensures i))) c.made-in-State.ensures))

pub returns-in-ShowFolder-clause-done : goal.returns-in-ShowFolder-clause-done
returns-in-ShowFolder-clause-done g c origin outcome was =
    let clock : Stream = record { bytes = g.C.Clock.left c.args.clock.now; faults = g.C.Clock.faults c.args.clock.now } in
    subst (λ (command : Command). AnsweredOr origin (tools c.args.store.now c.args.backups.now clock) (tools c.answer_show.new.store c.args.backups.now clock) outcome command c.answer_show.result)
    (sym c.in-ShowFolder.is)
    (lifted origin c.args.store.now c.answer_show.new.store c.args.backups.now clock outcome (ShowFolder c.in-ShowFolder.name) was c.answer_show.result tt
    (c.answer_show.ensures.done origin.store outcome was.store))

pub returns-in-CreateBackup-clause-done : goal.returns-in-CreateBackup-clause-done
returns-in-CreateBackup-clause-done g c origin outcome was =
    let clock : Stream = record { bytes = g.C.Clock.left c.args.clock.now; faults = g.C.Clock.faults c.args.clock.now } in
    let clock' : Stream = record { bytes = g.C.Clock.left c.answer_create.new.clock; faults = g.C.Clock.faults c.answer_create.new.clock } in
    subst (λ (command : Command). AnsweredOr origin (tools c.args.store.now c.args.backups.now clock) (tools c.answer_create.new.store c.answer_create.new.backups clock') outcome command c.answer_create.result)
    (sym c.in-CreateBackup.is) (c.answer_create.ensures.done origin outcome was)

pub returns-in-ListBackups-clause-done : goal.returns-in-ListBackups-clause-done
returns-in-ListBackups-clause-done g c origin outcome was =
    let clock : Stream = record { bytes = g.C.Clock.left c.args.clock.now; faults = g.C.Clock.faults c.args.clock.now } in
    subst (λ (command : Command). AnsweredOr origin (tools c.args.store.now c.args.backups.now clock) (tools c.args.store.now c.answer_list.new.backups clock) outcome command c.answer_list.result)
    (sym c.in-ListBackups.is) (c.answer_list.ensures.done origin c.args.store.now clock outcome was)
