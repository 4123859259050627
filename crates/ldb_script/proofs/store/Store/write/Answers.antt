use Rattle.std.proofs.Common.{◌+◌, ℕ, ap, subst, sym, ◌∙◌, arith}
use Rattle.std.specs.List.{fold}
use Rattle.lsm_rows.specs.Replay.{applied}
use Rattle.ldb_script.specs.Stored.{Shown, Stands}
use Rattle.lsm_disk.specs.State.{state_of}
use Rattle.lsm_disk.specs.Refusals.{no_file}
use Rattle.lsm_disk.specs.Answers.{RefusesBy}
use Rattle.ldb_script.specs.Opening.{ByOneLine, IsBroken}
use Rattle.ldb_script.proofs.Sizes.{batch_fits}
use Rattle.ldb_script.proofs.Logs.{logged, beside_written, folders_written, log_len, stands_written}
use Rattle.ldb_script.proofs.Broken.{first_of, broken}
use Rattle.ldb_script.proofs.store.Store.write.Goals as goal

pub returns-in_err-apply_all-clause-line : goal.returns-in_err-apply_all-clause-line
returns-in_err-apply_all-clause-line g c =
    let old : Shown = record { disk = g.D.Disk.seen c.self.inside.disk; log = c.self.inside.wal.path; len = c.self.inside.wal.len; contents = c.self.inside.pairs; sequence = c.self.inside.sequence } in
    let new : Shown = record { disk = g.D.Disk.seen c.append.new.disk; log = c.append.new.self.path; len = c.append.new.self.len; contents = c.apply_all.new.self; sequence = c.self.inside.sequence } in
    subst (λ (s : Shown). ByOneLine s new) c.self.view_is (record {
      counts = record { faults = c.append.ensures.cause.faults_later; refusals = c.append.ensures.cause.refusals_later };
      log = c.append.ensures.path;
      sequence = omega arith;
      len = omega (arith, c.in-Ok.ensures.len, batch_fits c.self.inside.wal.len (c.self.inside.sequence + 1) c.args.batch.now c.len.ensures.limits);
    })

pub returns-clause-line : goal.returns-clause-line
returns-clause-line g c =
    let new : Shown = record { disk = g.D.Disk.seen c.append.new.disk; log = c.append.new.self.path; len = c.append.new.self.len; contents = c.apply_all.new.self; sequence = c.self.inside.sequence + c.len.result } in
    subst (λ (s : Shown). ByOneLine s new) c.self.view_is (record {
      counts = record { faults = c.append.ensures.cause.faults_later; refusals = c.append.ensures.cause.refusals_later };
      log = c.append.ensures.path;
      sequence = omega (arith, c.len.ensures.len, c.len.ensures.limits.count);
      len = omega (arith, c.in-Ok.ensures.len, batch_fits c.self.inside.wal.len (c.self.inside.sequence + 1) c.args.batch.now c.len.ensures.limits);
    })

pub returns-clause-writes : goal.returns-clause-writes
returns-clause-writes g c start outcome was =
    let old : Shown = record { disk = g.D.Disk.seen c.self.inside.disk; log = c.self.inside.wal.path; len = c.self.inside.wal.len; contents = c.self.inside.pairs; sequence = c.self.inside.sequence } in
    let new : Shown = record { disk = g.D.Disk.seen c.append.new.disk; log = c.append.new.self.path; len = c.append.new.self.len; contents = c.apply_all.new.self; sequence = c.self.inside.sequence + c.len.result } in
    let stood : Stands start old outcome = subst (λ (s : Shown). Stands start s outcome) (sym c.self.view_is) was in
    let batch = c.args.batch.now in (
      (λ i. stood.sequence i + c.len.ensures.len i),
      stands_written start old new outcome stood batch c.args.sync c.append.ensures.path
          (folders_written start old new outcome stood batch c.args.sync
          (λ logs. let w = c.in-Ok.ensures.went logs.story _ outcome.after.durable logs.tells (stood.len ∙ log_len outcome.accepted) logs.wal in (w.story, w.tells, _, w.goes)) c.append.ensures.path)
          (logged start old new outcome stood batch c.args.sync
          (λ logs. let w = c.in-Ok.ensures.went logs.story _ outcome.after.durable logs.tells (stood.len ∙ log_len outcome.accepted) logs.wal in (w.story, w.tells, w.now)) c.append.ensures.path)
          (beside_written start old new outcome stood batch c.args.sync
          (λ logs. let w = c.in-Ok.ensures.went logs.story _ outcome.after.durable logs.tells (stood.len ∙ log_len outcome.accepted) logs.wal in (w.story, w.tells, _, w.goes)) c.append.ensures.path)
          (c.in_ok-apply_all.ensures ∙ ap (fold applied c.self.inside.pairs) c.ops.ensures.ops)
          (ap (λ (n : ℕ). c.self.inside.sequence + n) c.len.ensures.len)
          c.in-Ok.ensures.len,
    )

pub returns-in-Err-clause-writes : goal.returns-in-Err-clause-writes
returns-in-Err-clause-writes g c start outcome was =
    let old : Shown = record { disk = g.D.Disk.seen c.self.inside.disk; log = c.self.inside.wal.path; len = c.self.inside.wal.len; contents = c.self.inside.pairs; sequence = c.self.inside.sequence } in
    let new : Shown = record { disk = g.D.Disk.seen c.append.new.disk; log = c.append.new.self.path; len = c.append.new.self.len; contents = c.self.inside.pairs; sequence = c.self.inside.sequence } in
    let stood : Stands start old outcome = subst (λ (s : Shown). Stands start s outcome) (sym c.self.view_is) was in
    subst (λ (s : Shown). IsBroken start s new c.store_refused.result) c.self.view_is
    (subst (IsBroken start old new) (sym c.store_refused.ensures)
    (broken start old new outcome stood c.in-Err.field-0.at.call c.in-Err.field-0.at.path c.in-Err.field-0.why
    (first_of old.disk.told (λ story. RefusesBy (no_file old.log (state_of story)) c.in-Err.field-0.why) _ c.in-Err.ensures.answer)
    c.in-Err.ensures.cause.counted))
