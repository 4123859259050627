use Rattle.std.specs.Prelude.{◌≡◌, List, ℕ, Result}
use Rattle.std.proofs.Common.{subst, arith}
use Rattle.std.proofs.lemmas.Result.{IfOk-at_ok, IfErr-at_err}
use Rattle.lsm_bytes.specs.Checksum.{crc32c}
use Rattle.lsm_names.specs.declared.file_names.FileName.TheVariants.{Current}
use Rattle.bk_meta.specs.declared.backup_files.BackupFile.TheVariants.{Private}
use Rattle.bk_restore.specs.declared.errors.RestoreError.{RestoreError}
use Rattle.bk_restore.specs.Causes.{HasCauses, counts_of, silent}
use Rattle.bk_restore.specs.Refusals.{IsPastBegin}
use Rattle.bk_restore.specs.Wrong.{IsToldOf}
use Rattle.bk_restore.proofs.Causes.{causes_as, view_causes, causes_ok, later_same, later_trans, returned, returned_as}
use Rattle.bk_restore.proofs.Right.{text_copied, copying_told, copying_is_past}
use Rattle.bk_restore.proofs.current.read_file.Goals as goal

pub returns-in_err-view-clause-wrong : goal.returns-in_err-view-clause-wrong
returns-in_err-view-clause-wrong g c =
    returned (IsToldOf (g.B.Disk.seen c.args.disk.now).told c.args.file.now (Private Current)) c.from_residual.result c.in_err-view.field-0.0 c.from_residual.ensures.1 c.in_err-view.ensures.wrong

pub returns-in_err-view-clause-past : goal.returns-in_err-view-clause-past
returns-in_err-view-clause-past g c = returned IsPastBegin c.from_residual.result c.in_err-view.field-0.0 c.from_residual.ensures.1 c.in_err-view.ensures.past

pub returns-in_err-view-clause-cause : goal.returns-in_err-view-clause-cause
returns-in_err-view-clause-cause g c =
    let d0 = g.B.Disk.seen c.args.disk.now in
    let d1 = g.B.Disk.seen c.open_file.new.disk in
    returned_as (λ (r : Result (List ℕ) RestoreError). HasCauses d0 d1 silent silent r) c.from_residual.result c.in_err-view.field-0.0 c.from_residual.ensures.1
    (causes_as d0 d1 silent silent c.in_err-view.field-0.0 c.in_err-view.ensures.cause)

pub returns-in-Ok-clause-read : goal.returns-in-Ok-clause-read
returns-in-Ok-clause-read g c =
    text_copied (g.B.Disk.seen c.args.disk.now).told c.args.file.now (Private Current) (g.B.View.View.viewed c.in_ok-view.view) (crc32c c.in-Ok.text) c.in-Ok.text c.in_ok-view.ensures.opened
    (IfOk-at_ok _ c.in-Ok.is c.read_whole-read.ensures.read)

pub returns-in-Ok-clause-cause : goal.returns-in-Ok-clause-cause
returns-in-Ok-clause-cause g c =
    let d0 = g.B.Disk.seen c.args.disk.now in
    let d1 = g.B.Disk.seen c.open_file.new.disk in
    let d2 = g.B.Disk.seen c.close.new.self in
    causes_ok d0 d2 silent silent c.in-Ok.text (later_trans d0 d1 d2 c.open_file.ensures.cause.disk_later (record { faults = c.close.ensures.later; refusals = c.close.ensures.refusals })) (later_same silent)

pub returns-in-Err-clause-wrong : goal.returns-in-Err-clause-wrong
returns-in-Err-clause-wrong g c = copying_told (g.B.Disk.seen c.args.disk.now).told c.args.file.now (Private Current) c.in-Err.e (IfErr-at_err _ c.in-Err.is c.read_whole-read.ensures.kind)

pub returns-in-Err-clause-past : goal.returns-in-Err-clause-past
returns-in-Err-clause-past g c = copying_is_past c.in-Err.e (IfErr-at_err _ c.in-Err.is c.read_whole-read.ensures.kind)

pub returns-in-Err-clause-cause : goal.returns-in-Err-clause-cause
returns-in-Err-clause-cause g c =
    let d0 = g.B.Disk.seen c.args.disk.now in
    let d1 = g.B.Disk.seen c.open_file.new.disk in
    let d2 = g.B.Disk.seen c.close.new.self in
    let old = g.B.View.View.viewed c.in_ok-view.view in
    let new = g.B.View.View.viewed c.read_whole-read.new.view in
    let fresh : old.faults ≡ 0 = c.in_ok-view.ensures.opened.fresh in
    view_causes {T = List ℕ} d0 d1 d2 silent silent old new c.in-Err.e c.open_file.ensures.cause.disk_later (record { faults = c.close.ensures.later; refusals = c.close.ensures.refusals })
    (λ rose. c.close.ensures.faults (omega (arith, rose, fresh)))
    (subst (λ (r : Result (List ℕ) RestoreError). HasCauses (counts_of old) (counts_of new) silent silent r) c.in-Err.is c.read_whole-read.ensures.cause)
