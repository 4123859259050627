use Rattle.std.specs.Prelude.{◌+◌, [], ◌∷◌, List, take, drop, Option, Result}
use Rattle.std.proofs.Common.{refl, sym, subst, ◌∙◌}
use Rattle.std.proofs.lemmas.List.{take_all}
use Rattle.lsm_disk.specs.State.{Story}
use Rattle.bk_meta.specs.declared.metas.MetaFile.{MetaFile}
use Rattle.std.proofs.lemmas.List.Elements.{All-get_or}
use Rattle.bk_meta.specs.Metas.{IsMetaFile}
use Rattle.bk_restore.specs.declared.errors.RestoreError.{RestoreError}
use Rattle.bk_restore.specs.Causes.{HasCauses}
use Rattle.bk_restore.specs.Refusals.{IsPastBegin}
use Rattle.bk_restore.specs.Wrong.{others, IsToldFirst}
use Rattle.bk_restore.specs.Restored.{AreRestored, begun_with}
use Rattle.bk_restore.proofs.Causes.{later_same, later_trans, causes_ok, causes_within, returned, returned_as}
use Rattle.bk_restore.proofs.Going.{Going, going_starts, going_goes, going_stops, going_forgets, next_is_new, others_cut, take_next, first_told}
use Rattle.bk_restore.proofs.others.restore_others.Goals as goal
use Rattle.bk_meta.proofs.SetLemmas.{cut_files}

pub loop-file-init : goal.loop-file-init
loop-file-init g c = record {
  told = refl;
  disk = later_same (g.B.Disk.seen c.args.disk.now);
  dest = later_same (g.T.Dest.seen c.args.dest.now).disk;
  going = going_starts c.args.id (g.B.Disk.seen c.args.disk.now).told (g.T.Dest.seen c.args.dest.now);
  leads = λ first leads. leads;
}

pub restore_next-requires-clause-ready : goal.restore_next-requires-clause-ready
restore_next-requires-clause-ready g c κs within =
    let l = c.loop-file in
    let file = c.file-item.result in
    let files = c.args.files.now in
    let before = take l.file-index files in
    let folder = c.requires.ready.0 in
    let told = (g.B.Disk.seen c.args.disk.now).told in
    let cut = cut_files files l.file-index file c.loop-file-test.true (sym c.file-item.is) in (
      begun_with folder l.invariant.going.parts,
      l.invariant.going.ready folder c.requires.ready.1,
      next_is_new c.args.id told before (g.T.Dest.seen c.args.dest.now) (g.T.Dest.seen l.dest) l.invariant.going files file (drop (l.file-index + 1) files) folder c.requires.meta cut,
    )

pub returns-in_err-restore_next-clause-told : goal.returns-in_err-restore_next-clause-told
returns-in_err-restore_next-clause-told g c = c.restore_next.ensures.told ∙ c.loop-file.invariant.told

pub returns-in_err-restore_next-clause-went : goal.returns-in_err-restore_next-clause-went
returns-in_err-restore_next-clause-went g c start story folder tells begins is =
    let l = c.loop-file in
    let going = l.invariant.going in
    going_stops c.args.id (g.B.Disk.seen c.args.disk.now).told (take l.file-index c.args.files.now) (g.T.Dest.seen c.args.dest.now) (g.T.Dest.seen l.dest) going
    (g.T.Dest.seen c.restore_next.new.dest).disk.told start story folder tells begins is
    (λ mid still building. c.restore_next.ensures.went start mid (begun_with folder going.parts) going.parts still (going.ready folder begins) building)

pub returns-in_err-restore_next-clause-wrong : goal.returns-in_err-restore_next-clause-wrong
returns-in_err-restore_next-clause-wrong g c =
    let l = c.loop-file in
    let id = c.args.id in
    let told = (g.B.Disk.seen c.args.disk.now).told in
    let files = c.args.files.now in
    let file = c.file-item.result in
    let front = take l.file-index files in
    let rest = drop (l.file-index + 1) files in
    let e = c.in_err-restore_next.field-0.0 in
    let cut = cut_files files l.file-index file c.loop-file-test.true (sym c.file-item.is) in
    returned (IsToldFirst id told (others id files)) c.from_residual.result e c.from_residual.ensures.1
    (subst (λ (fs : List MetaFile). IsToldFirst id told fs e) (sym (others_cut id files front file rest cut))
    (first_told id told (others id front) (others id (file ∷ [])) (others id rest) l.invariant.going.parts e l.invariant.going.restored
    (subst (λ (o : Option Story). IsToldFirst id o (others id (file ∷ [])) e) l.invariant.told c.in_err-restore_next.ensures.wrong)))

pub returns-in_err-restore_next-clause-past : goal.returns-in_err-restore_next-clause-past
returns-in_err-restore_next-clause-past g c = returned IsPastBegin c.from_residual.result c.in_err-restore_next.field-0.0 c.from_residual.ensures.1 c.in_err-restore_next.ensures.past

pub returns-in_err-restore_next-clause-cause : goal.returns-in_err-restore_next-clause-cause
returns-in_err-restore_next-clause-cause g c =
    let d0 = g.B.Disk.seen c.args.disk.now in
    let d1 = g.B.Disk.seen c.loop-file.disk in
    let d2 = g.B.Disk.seen c.restore_next.new.disk in
    let t0 = (g.T.Dest.seen c.args.dest.now).disk in
    let t1 = (g.T.Dest.seen c.loop-file.dest).disk in
    let t2 = (g.T.Dest.seen c.restore_next.new.dest).disk in
    returned_as (λ (r : Result (Unit {0}) RestoreError). HasCauses d0 d2 t0 t2 r) c.from_residual.result c.in_err-restore_next.field-0.0 c.from_residual.ensures.1
    (causes_within {T = Unit {0}} d0 d1 d2 d2 t0 t1 t2 t2 c.in_err-restore_next.field-0.0 c.loop-file.invariant.disk (later_same d2) c.loop-file.invariant.dest (later_same t2) c.in_err-restore_next.ensures.cause)

pub returns-in_err-restore_next-clause-more : goal.returns-in_err-restore_next-clause-more
returns-in_err-restore_next-clause-more g c first leads = c.restore_next.ensures.more first (c.loop-file.invariant.leads first leads)

pub loop-file-preserved : goal.loop-file-preserved
loop-file-preserved g c =
    let l = c.loop-file in
    let id = c.args.id in
    let told = (g.B.Disk.seen c.args.disk.now).told in
    let files = c.args.files.now in
    let file = c.file-item.result in
    let front = take l.file-index files in
    let before = g.T.Dest.seen c.args.dest.now in
    let after = g.T.Dest.seen l.dest in
    let later = g.T.Dest.seen c.restore_next.new.dest in
    let restored = c.in_ok-restore_next.ensures.restored in
    record {
      told = c.restore_next.ensures.told ∙ l.invariant.told;
      disk = later_trans (g.B.Disk.seen c.args.disk.now) (g.B.Disk.seen l.disk) (g.B.Disk.seen c.restore_next.new.disk) l.invariant.disk c.restore_next.ensures.cause.disk_later;
      dest = later_trans before.disk after.disk later.disk l.invariant.dest c.restore_next.ensures.cause.dest_later;
      going = subst (λ (fs : List MetaFile). Going id told fs before later) (sym (take_next files l.file-index file c.loop-file-test.true (sym c.file-item.is)))
          (going_goes id told front before after l.invariant.going later file restored.0
          (subst (λ (o : Option Story). AreRestored id o (others id (file ∷ [])) restored.0) l.invariant.told restored.1) restored.2 restored.3);
      leads = λ first leads. c.restore_next.ensures.more first (l.invariant.leads first leads);
    }

pub returns-clause-restored : goal.returns-clause-restored
returns-clause-restored g c =
    let l = c.loop-file in
    let going = l.invariant.going in
    let all = take_all l.file-index c.args.files.now c.loop-file-test.false in
    let id = c.args.id in
    let told = (g.B.Disk.seen c.args.disk.now).told in (
      going.parts,
      subst (λ (fs : List MetaFile). AreRestored id told (others id fs) going.parts) all going.restored,
      λ folder begins. going.ready folder begins,
      λ start story folder tells begins is. going.builds start story folder tells begins is,
    )

pub returns-clause-went : goal.returns-clause-went
returns-clause-went g c start story folder tells begins is =
    let l = c.loop-file in
    going_forgets c.args.id (g.B.Disk.seen c.args.disk.now).told (take l.file-index c.args.files.now) (g.T.Dest.seen c.args.dest.now) (g.T.Dest.seen l.dest) l.invariant.going start story folder tells begins is

pub returns-clause-cause : goal.returns-clause-cause
returns-clause-cause g c =
    causes_ok (g.B.Disk.seen c.args.disk.now) (g.B.Disk.seen c.loop-file.disk) (g.T.Dest.seen c.args.dest.now).disk (g.T.Dest.seen c.loop-file.dest).disk tt c.loop-file.invariant.disk c.loop-file.invariant.dest

pub returns-clause-more : goal.returns-clause-more
returns-clause-more g c first leads = c.loop-file.invariant.leads first leads

pub restore_next-requires-clause-meta : goal.restore_next-requires-clause-meta
restore_next-requires-clause-meta g c κs within =
    subst (IsMetaFile c.args.id) (sym c.file-item.is) (All-get_or (IsMetaFile c.args.id) c.args.files.now c.loop-file.file-index _ c.loop-file-test.true c.requires.meta.each)
