use Rattle.std.specs.Prelude.{ℕ, [], List, is_some, Result, Ok, Err}
use Rattle.std.proofs.Common.{sym, subst, ap}
use Rattle.lsm_bytes.specs.Checksum.{crc32c}
use Rattle.lsm_names.specs.declared.file_names.FileName.TheVariants.{Current}
use Rattle.lsm_disk.specs.Dest.{finish_calls}
use Rattle.bk_meta.specs.declared.backup_files.BackupFile.TheVariants.{Private}
use Rattle.bk_restore.specs.declared.errors.RestoreError.{RestoreError}
use Rattle.bk_restore.specs.Causes.{HasCauses}
use Rattle.bk_restore.specs.Refusals.{IsOfCopying, IsPastBegin}
use Rattle.bk_restore.specs.Wrong.{currents, IsToldFirst}
use Rattle.bk_restore.specs.Restored.{part_of}
use Rattle.bk_restore.proofs.Causes.{dest_caused, dest_later, disk_causes, causes_ok, returned, returned_as}
use Rattle.bk_restore.proofs.Growing.{still_building, unbuilt, copying_kind}
use Rattle.bk_restore.proofs.Right.{text_is_right, copying_is_past}
use Rattle.bk_restore.proofs.Going.{sole_restored, sole_told, copying_first}
use Rattle.bk_restore.proofs.Ending.{Ended, Finished, stopped, finish_refused, finish_done}
use Rattle.bk_restore.proofs.restoring.restore_current.Goals as goal

pub returns-in_err-text-clause-went : goal.returns-in_err-text-clause-went
returns-in_err-text-clause-went g c start story begun parts tells ready is =
    let told = (g.B.Disk.seen c.args.disk.now).told in
    let files = currents c.args.id c.args.files.now in
    returned_as (λ (r : Result (Unit {0}) RestoreError). Ended c.args.id told files start begun.folder parts story (g.T.Dest.seen c.args.dest.now).disk.told r) c.from_residual.result c.in_err-text.field-0.0 c.from_residual.ensures.1
    (stopped c.args.id told files start begun.folder parts c.in_err-text.field-0.0 (unbuilt start begun parts (still_building start begun parts story tells is)))

pub returns-in_err-text-clause-wrong : goal.returns-in_err-text-clause-wrong
returns-in_err-text-clause-wrong g c =
    let told = (g.B.Disk.seen c.args.disk.now).told in
    let files = currents c.args.id c.args.files.now in
    returned (IsToldFirst c.args.id told files) c.from_residual.result c.in_err-text.field-0.0 c.from_residual.ensures.1
    (sole_told c.args.id told files c.current_of-file.result (Private Current) c.in_err-text.field-0.0 c.current_of-file.ensures.only c.current_of-file.ensures.named c.in_err-text.ensures.wrong)

pub returns-in_err-text-clause-past : goal.returns-in_err-text-clause-past
returns-in_err-text-clause-past g c = returned IsPastBegin c.from_residual.result c.in_err-text.field-0.0 c.from_residual.ensures.1 c.in_err-text.ensures.past

pub returns-in_err-text-clause-cause : goal.returns-in_err-text-clause-cause
returns-in_err-text-clause-cause g c =
    let d0 = g.B.Disk.seen c.args.disk.now in
    let d1 = g.B.Disk.seen c.read_current.new.disk in
    let t = (g.T.Dest.seen c.args.dest.now).disk in
    returned_as (λ (r : Result (Unit {0}) RestoreError). HasCauses d0 d1 t t r) c.from_residual.result c.in_err-text.field-0.0 c.from_residual.ensures.1
    (disk_causes {T = List ℕ} d0 d1 t c.in_err-text.field-0.0 c.in_err-text.ensures.cause)

pub finish-requires-clause-begun : goal.finish-requires-clause-begun
finish-requires-clause-begun g c = let ready = c.requires.ready.1 in ap is_some ready.begun_is

pub returns-in-Err-clause-went : goal.returns-in-Err-clause-went
returns-in-Err-clause-went g c start story begun parts tells ready is =
    let id = c.args.id in
    let told = (g.B.Disk.seen c.args.disk.now).told in
    let files = currents id c.args.files.now in
    let file = c.current_of-file.result in
    let text = c.in_ok-text.text in
    let now = (g.T.Dest.seen c.finish.new.self).disk.told in
    let restored = sole_restored id told files file (part_of (Private Current) text) c.current_of-file.ensures.only
    (text_is_right id told file (Private Current) (crc32c text) text c.current_of-file.ensures.named c.in_ok-text.ensures.read c.in_ok-text.ensures.right) in
    subst (λ (e : RestoreError). Ended id told files start begun.folder parts story now (Err e)) (sym (c.dest_refused.ensures []))
    (finish_refused id told files start begun parts text restored c.in-Err.why
    (subst (λ (bytes : List ℕ). Finished id told files start begun parts bytes story now (Err c.in-Err.why)) c.as_slice.ensures (c.in-Err.ensures.went start story begun parts tells ready.begun_is is)))

pub returns-in-Err-clause-wrong : goal.returns-in-Err-clause-wrong
returns-in-Err-clause-wrong g c =
    let ready = c.requires.ready.1 in
    copying_first c.args.id (g.B.Disk.seen c.args.disk.now).told (currents c.args.id c.args.files.now) c.dest_refused.result
    (subst IsOfCopying (sym (c.dest_refused.ensures []))
    (copying_kind (Unit {0}) (finish_calls (g.T.Dest.seen c.args.dest.now).begun) (g.T.Dest.seen c.args.dest.now) (g.T.Dest.seen c.finish.new.self) [] c.in-Err.why ready.halt c.in-Err.ensures.halt (λ is. c.in-Err.ensures.taken (ap Err is))))

pub returns-in-Err-clause-past : goal.returns-in-Err-clause-past
returns-in-Err-clause-past g c =
    let ready = c.requires.ready.1 in
    copying_is_past c.dest_refused.result
    (subst IsOfCopying (sym (c.dest_refused.ensures []))
    (copying_kind (Unit {0}) (finish_calls (g.T.Dest.seen c.args.dest.now).begun) (g.T.Dest.seen c.args.dest.now) (g.T.Dest.seen c.finish.new.self) [] c.in-Err.why ready.halt c.in-Err.ensures.halt (λ is. c.in-Err.ensures.taken (ap Err is))))

pub returns-in-Err-clause-cause : goal.returns-in-Err-clause-cause
returns-in-Err-clause-cause g c =
    let d0 = g.B.Disk.seen c.args.disk.now in
    let d1 = g.B.Disk.seen c.read_current.new.disk in
    let t0 = (g.T.Dest.seen c.args.dest.now).disk in
    let t1 = (g.T.Dest.seen c.finish.new.self).disk in
    subst (λ (e : RestoreError). HasCauses {T = Unit {0}} d0 d1 t0 t1 (Err e)) (sym (c.dest_refused.ensures []))
    (dest_caused t0 t1 d0 d1 [] c.in-Err.why c.read_current.ensures.cause.disk_later c.in-Err.ensures.cause)

pub returns-clause-went : goal.returns-clause-went
returns-clause-went g c start story begun parts tells ready is =
    let id = c.args.id in
    let told = (g.B.Disk.seen c.args.disk.now).told in
    let files = currents id c.args.files.now in
    let file = c.current_of-file.result in
    let text = c.in_ok-text.text in
    let now = (g.T.Dest.seen c.finish.new.self).disk.told in
    let restored = sole_restored id told files file (part_of (Private Current) text) c.current_of-file.ensures.only
    (text_is_right id told file (Private Current) (crc32c text) text c.current_of-file.ensures.named c.in_ok-text.ensures.read c.in_ok-text.ensures.right) in
    finish_done id told files start begun parts text restored
    (subst (λ (bytes : List ℕ). Finished id told files start begun parts bytes story now (Ok tt)) c.as_slice.ensures (c.in_default.ensures.went start story begun parts tells ready.begun_is is))

pub returns-clause-restored : goal.returns-clause-restored
returns-clause-restored g c =
    let id = c.args.id in
    let told = (g.B.Disk.seen c.args.disk.now).told in
    let file = c.current_of-file.result in
    let text = c.in_ok-text.text in (
      part_of (Private Current) text,
      sole_restored id told (currents id c.args.files.now) file (part_of (Private Current) text) c.current_of-file.ensures.only
          (text_is_right id told file (Private Current) (crc32c text) text c.current_of-file.ensures.named c.in_ok-text.ensures.read c.in_ok-text.ensures.right),
    )

pub returns-clause-cause : goal.returns-clause-cause
returns-clause-cause g c =
    let d0 = g.B.Disk.seen c.args.disk.now in
    let d1 = g.B.Disk.seen c.read_current.new.disk in
    let t0 = (g.T.Dest.seen c.args.dest.now).disk in
    let t1 = (g.T.Dest.seen c.finish.new.self).disk in
    causes_ok d0 d1 t0 t1 tt c.read_current.ensures.cause.disk_later (dest_later t0 t1 (Ok tt) c.in_default.ensures.cause)
