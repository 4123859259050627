use Rattle.std.proofs.Common.{refl, subst, sym, ap, ◌∙◌, arith}
use Rattle.std.specs.Prelude.{None, IsTrue, false, List, ℕ}
use Rattle.lsm_disk.specs.State.{Seen}
use Rattle.ldb_script.specs.Plain.{Start}
use Rattle.ldb_script.specs.Stored.{Shown}
use Rattle.ldb_script.specs.Opening.{SeenStay, IsOpened}
use Rattle.ldb_script.specs.Run.{Stream, Met, met, first_met, start_of, IsRun}
use Rattle.ldb_script.specs.Vaults.{Vault}
use Rattle.ldb_script.specs.Tools.{Origin}
use Rattle.ldb_script.specs.Doing.{EndsWith}
use Rattle.ldb_script.specs.declared.ending.Ended.{Ended}
use Rattle.ldb_script.proofs.Logs.{log_none}
use Rattle.ldb_script.proofs.Running.{ends, refuses, starts}
use Rattle.ldb_script.proofs.script.run_script.Goals as goal

pub returns-in-Ok : goal.returns-in-Ok
returns-in-Ok g c =
    let source : Stream = record { bytes = g.S.Source.left c.args.source.now; faults = g.S.Source.faults c.args.source.now } in
    let source' : Stream = record { bytes = g.S.Source.left c.run-ended.new.source; faults = g.S.Source.faults c.run-ended.new.source } in
    let sink : Stream = record { bytes = g.K.Sink.taken c.args.sink.now; faults = g.K.Sink.faults c.args.sink.now } in
    let sink' : Stream = record { bytes = g.K.Sink.taken c.run-ended.new.sink; faults = g.K.Sink.faults c.run-ended.new.sink } in
    let last : Stream = record { bytes = g.K.Sink.taken c.end-status.new.sink; faults = g.K.Sink.faults c.end-status.new.sink } in
    let clock : Stream = record { bytes = g.C.Clock.left c.args.clock.now; faults = g.C.Clock.faults c.args.clock.now } in
    let clock' : Stream = record { bytes = g.C.Clock.left c.run-ended.new.clock; faults = g.C.Clock.faults c.run-ended.new.clock } in
    let before = g.D.Disk.seen c.args.store_disk in
    let placed : Shown = c.new-place.result in
    let is_opened : IsOpened c.args.db.now before placed = subst (IsOpened c.args.db.now before) (sym c.new-place.ensures) c.in-Ok.ensures.opened in
    let stayed : SeenStay before placed.disk = subst (λ (s : Shown). SeenStay before s.disk) (sym c.new-place.ensures) c.in-Ok.ensures.counts in
    let vault : Vault = c.new-backups.result in
    let vault' : Vault = c.run-ended.new.backups in
    let folder = c.args.db.now in
    let m : Met = met source source' sink last before c.close-ended.new.place.disk vault.disk vault'.disk clock clock' in
    let origin : Origin = record { store = before.told; backups = vault.disk.told; start = start_of folder m } in
    let first : Met = first_met source sink placed.disk vault.disk clock in
    let stood = starts folder before placed vault clock source source' sink last c.close-ended.new.place.disk vault'.disk clock' is_opened c.new-backups.ensures.engine in
    record {
      run =
          subst (λ (b : Seen). IsRun folder (met source source' sink last before (g.D.Disk.seen c.into_disk.result) b (g.B.Disk.seen c.into_disk-in-Ok.result) clock clock') c.end-status.result) c.new-backups.ensures.disk
          (subst (λ (d : Seen). IsRun folder (met source source' sink last before d vault.disk (g.B.Disk.seen c.into_disk-in-Ok.result) clock clock') c.end-status.result) (sym c.into_disk.ensures)
          (subst (λ (b : Seen). IsRun folder (met source source' sink last before c.close-ended.new.place.disk vault.disk b clock clock') c.end-status.result) (sym c.into_disk-in-Ok.ensures)
          (ends folder before placed c.close-ended.new.place vault vault' clock clock' source source' sink sink' last c.end-status.result is_opened stayed (c.close-ended.ensures.line.log ∙ c.run-ended.ensures.log)
          (record {
            source = c.run-ended.ensures.counts.source;
            sink = c.run-ended.ensures.counts.sink;
            faults = omega (arith, c.run-ended.ensures.counts.faults, c.close-ended.ensures.line.counts.faults);
            refusals = omega (arith, c.run-ended.ensures.counts.refusals, c.close-ended.ensures.line.counts.refusals);
            backup_faults = c.run-ended.ensures.counts.backup_faults;
            backup_refusals = c.run-ended.ensures.counts.backup_refusals;
            clock = c.run-ended.ensures.counts.clock;
          })
          c.end-status.ensures.later c.close-ended.result
          (c.close-ended.ensures.closed origin first source' sink' vault' clock' c.run-ended.ensures.counts (c.run-ended.ensures.ran origin stood)) c.end-status.ensures.ends)));
    }

pub returns-in-Err : goal.returns-in-Err
returns-in-Err g c =
    let source : Stream = record { bytes = g.S.Source.left c.args.source.now; faults = g.S.Source.faults c.args.source.now } in
    let sink : Stream = record { bytes = g.K.Sink.taken c.args.sink.now; faults = g.K.Sink.faults c.args.sink.now } in
    let last : Stream = record { bytes = g.K.Sink.taken c.end-status-in-Err.new.sink; faults = g.K.Sink.faults c.end-status-in-Err.new.sink } in
    let clock : Stream = record { bytes = g.C.Clock.left c.args.clock.now; faults = g.C.Clock.faults c.args.clock.now } in
    record {
      run =
          refuses c.args.db.now (g.D.Disk.seen c.args.store_disk) (g.D.Disk.seen c.in-Err.field-0.disk) (g.B.Disk.seen c.args.backup_disk) clock source sink last c.end-status-in-Err.result c.in-Err.ensures.counts_refused c.end-status-in-Err.ensures.later
          c.in-Err.field-0.why c.in-Err.ensures.refused
          (subst (λ (e : Ended). EndsWith c.args.db.now sink last e c.end-status-in-Err.result) c.unopened.ensures c.end-status-in-Err.ensures.ends);
    }

-- what a run of a disk that doesn't tell begins with
abbrev untold : List ℕ → Start
untold folder = record { home = folder; tells = false; taken = λ name. false; times = None }

never : {P : Type 0} → IsTrue false → P
never t = absurd (cc)

pub run-ended-requires-clause-sequence : goal.run-ended-requires-clause-sequence
run-ended-requires-clause-sequence g c = λ _ _. ap (λ (s : Shown). s.sequence) c.new-place.ensures ∙ (c.in-Ok.ensures.opened.stands (untold c.args.db.now) refl never).sequence

pub run-ended-requires-clause-len : goal.run-ended-requires-clause-len
run-ended-requires-clause-len g c = λ _ _. ap (λ (s : Shown). s.len) c.new-place.ensures ∙ (c.in-Ok.ensures.opened.stands (untold c.args.db.now) refl never).len ∙ log_none
