use Rattle.std.specs.Prelude.{◌≡◌, [], ◌∷◌, false, Result}
use Rattle.std.proofs.Common.{sym, subst, ◌∙◌}
use Rattle.bk_meta.specs.Metas.{is_current}
use Rattle.std.specs.Prelude.{Some}
use Rattle.bk_restore.specs.declared.errors.RestoreError.{RestoreError}
use Rattle.lsm_disk.specs.Dest.{Begun}
use Rattle.bk_restore.specs.Causes.{HasCauses}
use Rattle.bk_restore.specs.Refusals.{IsPastBegin}
use Rattle.bk_restore.specs.Wrong.{others, IsToldFirst}
use Rattle.bk_restore.specs.Hands.{IsReady}
use Rattle.bk_restore.specs.Restored.{part_of}
use Rattle.bk_restore.proofs.Causes.{later_same, causes_ok, returned, returned_as}
use Rattle.bk_restore.proofs.Growing.{unbuilt, still_building}
use Rattle.bk_restore.proofs.Going.{none_restored, one_restored, one_told, same_begun, still_with_none}
use Rattle.bk_restore.proofs.others.restore_next.Goals as goal

pub returns-then-is_current-clause-restored : goal.returns-then-is_current-clause-restored
returns-then-is_current-clause-restored g c = (
  [],
  none_restored c.args.id (g.B.Disk.seen c.args.disk.now).told c.args.file.now c.file_of-which.result c.file_of-which.ensures (sym c.is_current.ensures ∙ c.if-is_current.true),
  λ begun ready. subst (λ (b : Begun). IsReady b (g.T.Dest.seen c.args.dest.now)) (sym (same_begun begun)) ready,
  λ start story begun parts tells ready is. still_with_none start begun parts story tells is,
)

pub returns-then-is_current-clause-went : goal.returns-then-is_current-clause-went
returns-then-is_current-clause-went g c start story begun parts tells ready is = unbuilt start begun parts (still_building start begun parts story tells is)

pub returns-then-is_current-clause-cause : goal.returns-then-is_current-clause-cause
returns-then-is_current-clause-cause g c =
    let d = g.B.Disk.seen c.args.disk.now in
    let t = (g.T.Dest.seen c.args.dest.now).disk in
    causes_ok d d t t tt (later_same d) (later_same t)

pub restore_file-requires : goal.restore_file-requires
restore_file-requires g c =
    let other : is_current (Some c.file_of-which.result) ≡ false = sym c.is_current.ensures ∙ c.if-is_current.false in
    (c.type_bounds.send-B-View, (c.requires.ready.0, c.requires.ready.1, c.requires.ready.2 c.file_of-which.result c.file_of-which.ensures other))

pub returns-in_err-restore_file-clause-went : goal.returns-in_err-restore_file-clause-went
returns-in_err-restore_file-clause-went g c start story begun parts tells ready is = c.restore_file.ensures.went start story begun parts tells ready is

pub returns-in_err-restore_file-clause-wrong : goal.returns-in_err-restore_file-clause-wrong
returns-in_err-restore_file-clause-wrong g c =
    let told = (g.B.Disk.seen c.args.disk.now).told in
    let other : is_current (Some c.file_of-which.result) ≡ false = sym c.is_current.ensures ∙ c.if-is_current.false in
    returned (IsToldFirst c.args.id told (others c.args.id (c.args.file.now ∷ []))) c.from_residual.result c.in_err-restore_file.field-0.0 c.from_residual.ensures.1
    (one_told c.args.id told c.args.file.now c.file_of-which.result c.in_err-restore_file.field-0.0 c.file_of-which.ensures other c.in_err-restore_file.ensures.wrong)

pub returns-in_err-restore_file-clause-past : goal.returns-in_err-restore_file-clause-past
returns-in_err-restore_file-clause-past g c = returned IsPastBegin c.from_residual.result c.in_err-restore_file.field-0.0 c.from_residual.ensures.1 c.in_err-restore_file.ensures.past

pub returns-in_err-restore_file-clause-cause : goal.returns-in_err-restore_file-clause-cause
returns-in_err-restore_file-clause-cause g c =
    let d0 = g.B.Disk.seen c.args.disk.now in
    let d1 = g.B.Disk.seen c.restore_file.new.disk in
    let t0 = (g.T.Dest.seen c.args.dest.now).disk in
    let t1 = (g.T.Dest.seen c.restore_file.new.dest).disk in
    returned_as (λ (r : Result (Unit {0}) RestoreError). HasCauses d0 d1 t0 t1 r) c.from_residual.result c.in_err-restore_file.field-0.0 c.from_residual.ensures.1 c.in_err-restore_file.ensures.cause

pub returns-clause-restored : goal.returns-clause-restored
returns-clause-restored g c =
    let which = c.file_of-which.result in
    let other : is_current (Some which) ≡ false = sym c.is_current.ensures ∙ c.if-is_current.false in
    let restored = c.in_ok-restore_file.ensures.restored in (
      part_of which restored.0 ∷ [],
      one_restored c.args.id (g.B.Disk.seen c.args.disk.now).told c.args.file.now which restored.0 c.file_of-which.ensures other (restored.1 c.args.id c.file_of-which.ensures),
      λ begun ready. c.in_ok-restore_file.ensures.keeps begun ready,
      λ start story begun parts tells ready is. restored.2 start story begun parts tells ready is,
    )

pub returns-clause-went : goal.returns-clause-went
returns-clause-went g c start story begun parts tells ready is = c.restore_file.ensures.went start story begun parts tells ready is

pub returns-clause-cause : goal.returns-clause-cause
returns-clause-cause g c = c.in_ok-restore_file.ensures.cause
