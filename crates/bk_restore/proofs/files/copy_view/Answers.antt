use Rattle.std.specs.Prelude.{[], ℕ, Result, Ok, Err}
use Rattle.std.proofs.Common.{sym, subst, ap}
use Rattle.bk_restore.specs.declared.errors.RestoreError.{RestoreError}
use Rattle.lsm_disk.specs.State.{new_file, longer}
use Rattle.lsm_disk.specs.Dest.{with_name}
use Rattle.lsm_disk.proofs.Runs.{went_then}
use Rattle.bk_restore.specs.Causes.{HasCauses, counts_of}
use Rattle.bk_restore.specs.Refusals.{IsOfCopying}
use Rattle.bk_restore.proofs.Causes.{dest_caused, later_same, later_trans, dest_later, causes_within, causes_ok, returned, returned_as}
use Rattle.bk_restore.proofs.Growing.{unwritten, file_refused, copying_kind, file_in_hand, name_is_new}
use Rattle.bk_restore.proofs.files.copy_view.Goals as goal

pub file-requires-clause-new : goal.file-requires-clause-new
file-requires-clause-new g c = name_is_new (g.T.Dest.seen c.args.dest.now) c.requires.0 c.args.name.now c.requires.1 c.requires.2

pub returns-in-Err-clause-went : goal.returns-in-Err-clause-went
returns-in-Err-clause-went g c start story begun parts tells ready is =
    file_refused start begun parts c.args.name.now c.in-Err.why (c.in-Err.ensures.went start story begun parts tells ready.begun_is is)

pub returns-in-Err-clause-kind : goal.returns-in-Err-clause-kind
returns-in-Err-clause-kind g c =
    subst IsOfCopying (sym (c.dest_refused.ensures []))
    (copying_kind (Unit {0}) _ (g.T.Dest.seen c.args.dest.now) (g.T.Dest.seen c.file.new.self) [] c.in-Err.why c.requires.1.halt c.in-Err.ensures.halt (λ is. c.in-Err.ensures.taken (ap Err is)))

pub returns-in-Err-clause-cause : goal.returns-in-Err-clause-cause
returns-in-Err-clause-cause g c =
    let view = counts_of (g.V.View.viewed c.args.view.now) in
    let before = (g.T.Dest.seen c.args.dest.now).disk in
    let after = (g.T.Dest.seen c.file.new.self).disk in
    subst (λ (e : RestoreError). HasCauses {T = ℕ} view view before after (Err e)) (sym (c.dest_refused.ensures []))
    (dest_caused before after view view [] c.in-Err.why (later_same view) c.in-Err.ensures.cause)

pub copy_bytes-requires : goal.copy_bytes-requires
copy_bytes-requires g c = (
  c.type_bounds.send-V,
  (
    with_name c.args.name.now c.requires.0,
    c.args.name.now,
    file_in_hand [] (g.T.Dest.seen c.args.dest.now) (g.T.Dest.seen c.file.new.self) c.requires.0 c.args.name.now c.requires.1 c.in_default.ensures.halt c.in_default.ensures.leaves,
  ),
)

pub returns-in_err-crc-clause-went : goal.returns-in_err-crc-clause-went
returns-in_err-crc-clause-went g c start story begun parts tells ready is =
    let name = c.args.name.now in
    went_then (c.in_default.ensures.went start story begun parts tells ready.begun_is is)
    (λ mid told writing. c.copy_bytes.ensures.went start mid (with_name name begun) parts name told
    (file_in_hand [] (g.T.Dest.seen c.args.dest.now) (g.T.Dest.seen c.file.new.self) begun name ready c.in_default.ensures.halt c.in_default.ensures.leaves) writing)

pub returns-in_err-crc-clause-kind : goal.returns-in_err-crc-clause-kind
returns-in_err-crc-clause-kind g c = returned IsOfCopying c.from_residual.result c.in_err-crc.field-0.0 c.from_residual.ensures.1 c.in_err-crc.ensures.kind

pub returns-in_err-crc-clause-cause : goal.returns-in_err-crc-clause-cause
returns-in_err-crc-clause-cause g c =
    let old = counts_of (g.V.View.viewed c.args.view.now) in
    let new = counts_of (g.V.View.viewed c.copy_bytes.new.view) in
    let t0 = (g.T.Dest.seen c.args.dest.now).disk in
    let t1 = (g.T.Dest.seen c.file.new.self).disk in
    let t2 = (g.T.Dest.seen c.copy_bytes.new.dest).disk in
    returned_as (λ (r : Result ℕ RestoreError). HasCauses old new t0 t2 r) c.from_residual.result c.in_err-crc.field-0.0 c.from_residual.ensures.1
    (causes_within {T = ℕ} old old new new t0 t1 t2 t2 c.in_err-crc.field-0.0 (later_same old) (later_same new) (dest_later t0 t1 (Ok tt) c.in_default.ensures.cause) (later_same t2) c.in_err-crc.ensures.cause)

pub returns-in_err-crc-clause-more : goal.returns-in_err-crc-clause-more
returns-in_err-crc-clause-more g c first leads = c.copy_bytes.ensures.more first (c.in_default.ensures.more first leads)

pub returns-clause-copied : goal.returns-clause-copied
returns-clause-copied g c =
    let name = c.args.name.now in
    let copied = c.in_ok-crc.ensures.copied in (
      copied.0,
      copied.1,
      λ start story begun parts tells ready is.
          went_then (c.in_default.ensures.went start story begun parts tells ready.begun_is is)
          (λ mid told writing. copied.2 start mid (with_name name begun) parts name told
          (file_in_hand [] (g.T.Dest.seen c.args.dest.now) (g.T.Dest.seen c.file.new.self) begun name ready c.in_default.ensures.halt c.in_default.ensures.leaves) writing),
    )

pub returns-clause-went : goal.returns-clause-went
returns-clause-went g c start story begun parts tells ready is =
    let name = c.args.name.now in
    let copied = c.in_ok-crc.ensures.copied in
    unwritten start (with_name name begun) parts name (longer copied.0 new_file)
    (went_then (c.in_default.ensures.went start story begun parts tells ready.begun_is is)
    (λ mid told writing. copied.2 start mid (with_name name begun) parts name told
    (file_in_hand [] (g.T.Dest.seen c.args.dest.now) (g.T.Dest.seen c.file.new.self) begun name ready c.in_default.ensures.halt c.in_default.ensures.leaves) writing))

pub returns-clause-keeps : goal.returns-clause-keeps
returns-clause-keeps g c begun ready =
    let name = c.args.name.now in
    c.in_ok-crc.ensures.keeps (with_name name begun) name
    (file_in_hand [] (g.T.Dest.seen c.args.dest.now) (g.T.Dest.seen c.file.new.self) begun name ready c.in_default.ensures.halt c.in_default.ensures.leaves)

pub returns-clause-cause : goal.returns-clause-cause
returns-clause-cause g c =
    let old = counts_of (g.V.View.viewed c.args.view.now) in
    let new = counts_of (g.V.View.viewed c.copy_bytes.new.view) in
    let t0 = (g.T.Dest.seen c.args.dest.now).disk in
    let t1 = (g.T.Dest.seen c.file.new.self).disk in
    let t2 = (g.T.Dest.seen c.copy_bytes.new.dest).disk in
    causes_ok old new t0 t2 c.in_ok-crc.crc c.copy_bytes.ensures.cause.disk_later (later_trans t0 t1 t2 (dest_later t0 t1 (Ok tt) c.in_default.ensures.cause) c.copy_bytes.ensures.cause.dest_later)

pub returns-clause-more : goal.returns-clause-more
returns-clause-more g c first leads = c.copy_bytes.ensures.more first (c.in_default.ensures.more first leads)
