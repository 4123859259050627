use denote.Param.Send.{sendable}
use Rattle.std.specs.Prelude.{◌≡◌, ℕ, Result}
use Rattle.std.proofs.Common.{sym, subst, arith}
use Rattle.std.proofs.lemmas.Result.{IfOk-at_ok, IfErr-at_err}
use Rattle.lsm_names.specs.declared.file_names.FileName.{FileName}
use Rattle.bk_restore.specs.declared.errors.RestoreError.{RestoreError}
use Rattle.lsm_disk.specs.State.{new_file, longer}
use Rattle.lsm_disk.specs.Dest.{with_name}
use Rattle.lsm_disk.specs.Building.{IsWriting}
use Rattle.bk_restore.specs.Causes.{HasCauses, counts_of}
use Rattle.bk_restore.specs.Refusals.{IsPastBegin}
use Rattle.bk_restore.specs.Wrong.{IsToldOf}
use Rattle.bk_restore.specs.Hands.{IsNewName, HasInHand, Builds}
use Rattle.bk_restore.proofs.Causes.{disk_causes, view_causes, causes_ok, later_trans, returned, returned_as}
use Rattle.bk_restore.proofs.Growing.{unbuilt, still_building}
use Rattle.bk_restore.proofs.Right.{text_copied, copying_told, copying_is_past}
use Rattle.bk_restore.proofs.files.copy_file.Goals as goal

pub returns-in_err-view-clause-went : goal.returns-in_err-view-clause-went
returns-in_err-view-clause-went g c start story begun parts tells ready is = unbuilt start begun parts (still_building start begun parts story tells is)

pub returns-in_err-view-clause-wrong : goal.returns-in_err-view-clause-wrong
returns-in_err-view-clause-wrong g c =
    returned (IsToldOf (g.B.Disk.seen c.args.disk.now).told c.args.file.now c.args.which.now) c.from_residual.result c.in_err-view.field-0.0 c.from_residual.ensures.1 c.in_err-view.ensures.wrong

pub returns-in_err-view-clause-past : goal.returns-in_err-view-clause-past
returns-in_err-view-clause-past g c = returned IsPastBegin c.from_residual.result c.in_err-view.field-0.0 c.from_residual.ensures.1 c.in_err-view.ensures.past

pub returns-in_err-view-clause-cause : goal.returns-in_err-view-clause-cause
returns-in_err-view-clause-cause g c =
    let d0 = g.B.Disk.seen c.args.disk.now in
    let d1 = g.B.Disk.seen c.open_file.new.disk in
    let t = (g.T.Dest.seen c.args.dest.now).disk in
    returned_as (λ (r : Result ℕ RestoreError). HasCauses d0 d1 t t r) c.from_residual.result c.in_err-view.field-0.0 c.from_residual.ensures.1
    (disk_causes d0 d1 t c.in_err-view.field-0.0 c.in_err-view.ensures.cause)

pub copy_view-copied-requires : goal.copy_view-copied-requires
copy_view-copied-requires g c = (search (sendable, c.type_bounds.send-B-View), (c.requires.0, c.requires.1, subst (λ (name : FileName). IsNewName c.requires.0 name) (sym c.store_name.ensures) c.requires.2))

pub returns-in-Ok-clause-copied : goal.returns-in-Ok-clause-copied
returns-in-Ok-clause-copied g c =
    let copied = IfOk-at_ok _ c.in-Ok.is c.copy_view-copied.ensures.copied in (
      copied.0,
      text_copied (g.B.Disk.seen c.args.disk.now).told c.args.file.now c.args.which.now (g.B.View.View.viewed c.in_ok-view.view) c.in-Ok.crc copied.0 c.in_ok-view.ensures.opened copied.1,
      λ start story begun parts tells ready is.
          subst (λ (name : FileName). Builds start begun.folder story (g.T.Dest.seen c.copy_view-copied.new.dest).disk.told (IsWriting start (with_name name begun) parts name (longer copied.0 new_file))) c.store_name.ensures
          (copied.2 start story begun parts tells ready is),
    )

pub returns-in-Ok-clause-went : goal.returns-in-Ok-clause-went
returns-in-Ok-clause-went g c start story begun parts tells ready is = c.copy_view-copied.ensures.went start story begun parts tells ready is

pub returns-in-Ok-clause-keeps : goal.returns-in-Ok-clause-keeps
returns-in-Ok-clause-keeps g c begun ready =
    subst (λ (name : FileName). HasInHand (with_name name begun) name (g.T.Dest.seen c.copy_view-copied.new.dest)) c.store_name.ensures
    (IfOk-at_ok _ c.in-Ok.is c.copy_view-copied.ensures.keeps begun ready)

pub returns-in-Ok-clause-cause : goal.returns-in-Ok-clause-cause
returns-in-Ok-clause-cause g c =
    let d0 = g.B.Disk.seen c.args.disk.now in
    let d1 = g.B.Disk.seen c.open_file.new.disk in
    let d2 = g.B.Disk.seen c.close.new.self in
    causes_ok d0 d2 (g.T.Dest.seen c.args.dest.now).disk (g.T.Dest.seen c.copy_view-copied.new.dest).disk c.in-Ok.crc
    (later_trans d0 d1 d2 c.open_file.ensures.cause.disk_later (record { faults = c.close.ensures.later; refusals = c.close.ensures.refusals })) c.copy_view-copied.ensures.cause.dest_later

pub returns-in-Err-clause-went : goal.returns-in-Err-clause-went
returns-in-Err-clause-went g c start story begun parts tells ready is = c.copy_view-copied.ensures.went start story begun parts tells ready is

pub returns-in-Err-clause-wrong : goal.returns-in-Err-clause-wrong
returns-in-Err-clause-wrong g c = copying_told (g.B.Disk.seen c.args.disk.now).told c.args.file.now c.args.which.now c.in-Err.e (IfErr-at_err _ c.in-Err.is c.copy_view-copied.ensures.kind)

pub returns-in-Err-clause-past : goal.returns-in-Err-clause-past
returns-in-Err-clause-past g c = copying_is_past c.in-Err.e (IfErr-at_err _ c.in-Err.is c.copy_view-copied.ensures.kind)

pub returns-in-Err-clause-cause : goal.returns-in-Err-clause-cause
returns-in-Err-clause-cause g c =
    let d0 = g.B.Disk.seen c.args.disk.now in
    let d1 = g.B.Disk.seen c.open_file.new.disk in
    let d2 = g.B.Disk.seen c.close.new.self in
    let t0 = (g.T.Dest.seen c.args.dest.now).disk in
    let t1 = (g.T.Dest.seen c.copy_view-copied.new.dest).disk in
    let old = g.B.View.View.viewed c.in_ok-view.view in
    let new = g.B.View.View.viewed c.copy_view-copied.new.view in
    let fresh : old.faults ≡ 0 = c.in_ok-view.ensures.opened.fresh in
    view_causes {T = ℕ} d0 d1 d2 t0 t1 old new c.in-Err.e c.open_file.ensures.cause.disk_later (record { faults = c.close.ensures.later; refusals = c.close.ensures.refusals })
    (λ rose. c.close.ensures.faults (omega (arith, rose, fresh)))
    (subst (λ (r : Result ℕ RestoreError). HasCauses (counts_of old) (counts_of new) t0 t1 r) c.in-Err.is c.copy_view-copied.ensures.cause)
