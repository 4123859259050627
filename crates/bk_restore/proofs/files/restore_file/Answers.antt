use Rattle.std.specs.Prelude.{[], ◌∷◌, ◌++◌, ℕ, is_some, Result, Ok, Err}
use Rattle.std.proofs.Common.{sym, subst, ap}
use Rattle.bk_restore.specs.declared.errors.RestoreError.{RestoreError}
use Rattle.lsm_disk.specs.State.{new_file, longer}
use Rattle.lsm_disk.specs.Dest.{with_name}
use Rattle.lsm_disk.proofs.Runs.{went_then}
use Rattle.bk_tree.specs.Holds.{store_name}
use Rattle.bk_restore.specs.Causes.{HasCauses}
use Rattle.bk_restore.specs.Refusals.{dest_answer, IsOfCopying, IsPastBegin}
use Rattle.bk_restore.specs.Wrong.{IsToldOf}
use Rattle.bk_restore.specs.Restored.{part_of}
use Rattle.bk_restore.proofs.Causes.{dest_caused, dest_later, later_same, later_trans, causes_ok, causes_as, causes_within, returned, returned_as}
use Rattle.bk_restore.proofs.Growing.{unbuilt, seal_refused, copying_kind, file_sealed}
use Rattle.bk_restore.proofs.Right.{crc_told, crc_counted, text_is_right, copying_told, copying_is_past}
use Rattle.bk_restore.proofs.files.restore_file.Goals as goal

pub returns-in_err-crc-clause-went : goal.returns-in_err-crc-clause-went
returns-in_err-crc-clause-went g c start story begun parts tells ready is = c.copy_file.ensures.went start story begun parts tells ready is

pub returns-in_err-crc-clause-wrong : goal.returns-in_err-crc-clause-wrong
returns-in_err-crc-clause-wrong g c =
    returned (IsToldOf (g.B.Disk.seen c.args.disk.now).told c.args.file.now c.args.which.now) c.from_residual.result c.in_err-crc.field-0.0 c.from_residual.ensures.1 c.in_err-crc.ensures.wrong

pub returns-in_err-crc-clause-past : goal.returns-in_err-crc-clause-past
returns-in_err-crc-clause-past g c = returned IsPastBegin c.from_residual.result c.in_err-crc.field-0.0 c.from_residual.ensures.1 c.in_err-crc.ensures.past

pub returns-in_err-crc-clause-cause : goal.returns-in_err-crc-clause-cause
returns-in_err-crc-clause-cause g c =
    let d0 = g.B.Disk.seen c.args.disk.now in
    let d1 = g.B.Disk.seen c.copy_file.new.disk in
    let t0 = (g.T.Dest.seen c.args.dest.now).disk in
    let t1 = (g.T.Dest.seen c.copy_file.new.dest).disk in
    returned_as (λ (r : Result (Unit {0}) RestoreError). HasCauses d0 d1 t0 t1 r) c.from_residual.result c.in_err-crc.field-0.0 c.from_residual.ensures.1
    (causes_as {T = ℕ} d0 d1 t0 t1 c.in_err-crc.field-0.0 c.in_err-crc.ensures.cause)

pub returns-in_err-compare-clause-went : goal.returns-in_err-compare-clause-went
returns-in_err-compare-clause-went g c start story begun parts tells ready is = c.copy_file.ensures.went start story begun parts tells ready is

pub returns-in_err-compare-clause-wrong : goal.returns-in_err-compare-clause-wrong
returns-in_err-compare-clause-wrong g c =
    let told = (g.B.Disk.seen c.args.disk.now).told in
    let copied = c.in_ok-crc.ensures.copied in
    returned (IsToldOf told c.args.file.now c.args.which.now) c.from_residual-in_err-compare.result c.in_err-compare.field-0.0 c.from_residual-in_err-compare.ensures.1
    (crc_told told c.args.file.now c.args.which.now c.in_ok-crc.crc copied.0 c.in_err-compare.field-0.0 copied.1 c.in_err-compare.ensures.err)

pub returns-in_err-compare-clause-past : goal.returns-in_err-compare-clause-past
returns-in_err-compare-clause-past g c = returned IsPastBegin c.from_residual-in_err-compare.result c.in_err-compare.field-0.0 c.from_residual-in_err-compare.ensures.1 c.in_err-compare.ensures.past

pub returns-in_err-compare-clause-cause : goal.returns-in_err-compare-clause-cause
returns-in_err-compare-clause-cause g c =
    let d0 = g.B.Disk.seen c.args.disk.now in
    let d1 = g.B.Disk.seen c.copy_file.new.disk in
    let t0 = (g.T.Dest.seen c.args.dest.now).disk in
    let t1 = (g.T.Dest.seen c.copy_file.new.dest).disk in
    returned_as (λ (r : Result (Unit {0}) RestoreError). HasCauses d0 d1 t0 t1 r) c.from_residual-in_err-compare.result c.in_err-compare.field-0.0 c.from_residual-in_err-compare.ensures.1
    (record {
      disk_later = c.copy_file.ensures.cause.disk_later;
      dest_later = c.copy_file.ensures.cause.dest_later;
      counted = crc_counted _ _ _ _ c.args.file.now c.in_ok-crc.crc c.in_err-compare.field-0.0 c.in_err-compare.ensures.err;
    })

pub seal-requires-clause-begun : goal.seal-requires-clause-begun
seal-requires-clause-begun g c = let hand = c.in_ok-crc.ensures.keeps c.requires.0 c.requires.1 in ap is_some hand.begun_is

pub seal-requires-clause-hand : goal.seal-requires-clause-hand
seal-requires-clause-hand g c = let hand = c.in_ok-crc.ensures.keeps c.requires.0 c.requires.1 in ap is_some hand.hand

pub returns-in-Err-clause-went : goal.returns-in-Err-clause-went
returns-in-Err-clause-went g c start story begun parts tells ready is =
    let name = store_name c.args.which.now in
    let copied = c.in_ok-crc.ensures.copied in
    let hand = c.in_ok-crc.ensures.keeps begun ready in
    went_then (copied.2 start story begun parts tells ready is)
    (λ mid told writing. seal_refused start (with_name name begun) parts name c.in-Err.why (longer copied.0 new_file)
    (c.in-Err.ensures.went start mid (with_name name begun) parts name (longer copied.0 new_file) told hand.begun_is hand.hand writing))

pub returns-in-Err-clause-wrong : goal.returns-in-Err-clause-wrong
returns-in-Err-clause-wrong g c =
    let hand = c.in_ok-crc.ensures.keeps c.requires.0 c.requires.1 in
    copying_told (g.B.Disk.seen c.args.disk.now).told c.args.file.now c.args.which.now c.dest_refused.result
    (subst IsOfCopying (sym (c.dest_refused.ensures []))
    (copying_kind (Unit {0}) _ (g.T.Dest.seen c.copy_file.new.dest) (g.T.Dest.seen c.seal.new.self) [] c.in-Err.why hand.halt c.in-Err.ensures.halt (λ is. c.in-Err.ensures.taken (ap Err is))))

pub returns-in-Err-clause-past : goal.returns-in-Err-clause-past
returns-in-Err-clause-past g c =
    let hand = c.in_ok-crc.ensures.keeps c.requires.0 c.requires.1 in
    copying_is_past c.dest_refused.result
    (subst IsOfCopying (sym (c.dest_refused.ensures []))
    (copying_kind (Unit {0}) _ (g.T.Dest.seen c.copy_file.new.dest) (g.T.Dest.seen c.seal.new.self) [] c.in-Err.why hand.halt c.in-Err.ensures.halt (λ is. c.in-Err.ensures.taken (ap Err is))))

pub returns-in-Err-clause-cause : goal.returns-in-Err-clause-cause
returns-in-Err-clause-cause g c =
    let d0 = g.B.Disk.seen c.args.disk.now in
    let d1 = g.B.Disk.seen c.copy_file.new.disk in
    let t0 = (g.T.Dest.seen c.args.dest.now).disk in
    let t1 = (g.T.Dest.seen c.copy_file.new.dest).disk in
    let t2 = (g.T.Dest.seen c.seal.new.self).disk in
    subst (λ (e : RestoreError). HasCauses {T = Unit {0}} d0 d1 t0 t2 (Err e)) (sym (c.dest_refused.ensures []))
    (causes_within {T = Unit {0}} d0 d1 d1 d1 t0 t1 t2 t2 (dest_answer [] c.in-Err.why) c.copy_file.ensures.cause.disk_later (later_same d1) c.copy_file.ensures.cause.dest_later (later_same t2)
    (dest_caused t1 t2 d1 d1 [] c.in-Err.why (later_same d1) c.in-Err.ensures.cause))

pub returns-clause-restored : goal.returns-clause-restored
returns-clause-restored g c =
    let name = store_name c.args.which.now in
    let copied = c.in_ok-crc.ensures.copied in (
      copied.0,
      λ id named. text_is_right id (g.B.Disk.seen c.args.disk.now).told c.args.file.now c.args.which.now c.in_ok-crc.crc copied.0 named copied.1 c.in_ok-compare.ensures.ok,
      λ start story begun parts tells ready is.
          let hand = c.in_ok-crc.ensures.keeps begun ready in
          went_then (copied.2 start story begun parts tells ready is)
          (λ mid told writing. c.in_default.ensures.went start mid (with_name name begun) parts name (longer copied.0 new_file) told hand.begun_is hand.hand writing),
    )

pub returns-clause-went : goal.returns-clause-went
returns-clause-went g c start story begun parts tells ready is =
    let name = store_name c.args.which.now in
    let copied = c.in_ok-crc.ensures.copied in
    let hand = c.in_ok-crc.ensures.keeps begun ready in
    unbuilt start (with_name name begun) (parts ++ part_of c.args.which.now copied.0 ∷ [])
    (went_then (copied.2 start story begun parts tells ready is)
    (λ mid told writing. c.in_default.ensures.went start mid (with_name name begun) parts name (longer copied.0 new_file) told hand.begun_is hand.hand writing))

pub returns-clause-keeps : goal.returns-clause-keeps
returns-clause-keeps g c begun ready =
    let name = store_name c.args.which.now in
    let hand = c.in_ok-crc.ensures.keeps begun ready in
    file_sealed [] (g.T.Dest.seen c.copy_file.new.dest) (g.T.Dest.seen c.seal.new.self) (with_name name begun) name hand c.in_default.ensures.halt c.in_default.ensures.leaves

pub returns-clause-cause : goal.returns-clause-cause
returns-clause-cause g c =
    let d0 = g.B.Disk.seen c.args.disk.now in
    let d1 = g.B.Disk.seen c.copy_file.new.disk in
    let t0 = (g.T.Dest.seen c.args.dest.now).disk in
    let t1 = (g.T.Dest.seen c.copy_file.new.dest).disk in
    let t2 = (g.T.Dest.seen c.seal.new.self).disk in
    causes_ok d0 d1 t0 t2 tt c.copy_file.ensures.cause.disk_later (later_trans t0 t1 t2 c.copy_file.ensures.cause.dest_later (dest_later t1 t2 (Ok tt) c.in_default.ensures.cause))
