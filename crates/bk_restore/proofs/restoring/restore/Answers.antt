use Rattle.std.specs.Prelude.{ℕ, List, [], ◌∷◌, ◌++◌, Option, IfSome, Result, Ok, Err}
use Rattle.std.proofs.Common.{sym, subst}
use Rattle.lsm_disk.specs.State.{Story, state_of}
use Rattle.lsm_disk.specs.Images.{tree_now}
use Rattle.lsm_disk.specs.Dest.{just_begun}
use Rattle.lsm_disk.specs.Building.{IsBuilding}
use Rattle.lsm_disk.proofs.Runs.{went_then}
use Rattle.bk_meta.specs.declared.metas.MetaFile.{MetaFile}
use Rattle.bk_restore.specs.declared.errors.RestoreError.{RestoreError}
use Rattle.bk_restore.specs.Causes.{HasCauses}
use Rattle.bk_restore.specs.Wrong.{others, currents, in_order, first_wrong, IsToldFirst, Tells}
use Rattle.bk_restore.specs.Restored.{AreRestored, AreMetaFiles, begun_with, TakesBy}
use Rattle.bk_restore.proofs.Causes.{later_same, later_trans, causes_ok, causes_within, dest_causes, returned_as}
use Rattle.bk_restore.proofs.Going.{restored_both, begun_first, told_before, told_behind, all_right}
use Rattle.bk_restore.proofs.Ending.{Ended, Restored, begin_leaves, others_leave, current_leaves, all_restored, meta_files}
use Rattle.bk_restore.proofs.Answering.{HaltsBy, halted_same, halted_past, halted_ok, takes_same, takes_past}
use Rattle.bk_restore.proofs.restoring.restore.Goals as goal

pub restore_others-requires-clause-meta : goal.restore_others-requires-clause-meta
restore_others-requires-clause-meta g c κs within =
    subst (AreMetaFiles c.args.meta.now.id) (sym c.as_slice-files.ensures) (meta_files c.args.meta.now c.requires)

pub restore_others-requires-clause-ready : goal.restore_others-requires-clause-ready
restore_others-requires-clause-ready g c κs within =
    (c.args.dir.now, c.in_ok-begin.ensures.ready)

pub restore_current-requires-clause-meta : goal.restore_current-requires-clause-meta
restore_current-requires-clause-meta g c κs within =
    subst (AreMetaFiles c.args.meta.now.id) (sym c.as_slice-files.ensures) (meta_files c.args.meta.now c.requires)

pub restore_current-requires-clause-ready : goal.restore_current-requires-clause-ready
restore_current-requires-clause-ready g c κs within =
    let restored = c.in_ok-restore_others.ensures.restored in
    (begun_with c.args.dir.now restored.0, restored.2 c.args.dir.now c.in_ok-begin.ensures.ready)

pub returns-in_err-begin-clause-halted : goal.returns-in_err-begin-clause-halted
returns-in_err-begin-clause-halted g c first =
    returned_as (λ (r : Result ℕ RestoreError). HaltsBy (g.T.Dest.seen c.args.dest.now).halt first r) c.from_residual.result c.in_err-begin.field-0.0 c.from_residual.ensures.1
    (halted_same (g.T.Dest.seen c.args.dest.now).halt first c.in_err-begin.field-0.0 (c.in_err-begin.ensures.halted first))

pub returns-in_err-begin-clause-taken : goal.returns-in_err-begin-clause-taken
returns-in_err-begin-clause-taken g c =
    returned_as (λ (r : Result ℕ RestoreError). TakesBy c.args.dir.now (g.T.Dest.seen c.args.dest.now).disk.told r) c.from_residual.result c.in_err-begin.field-0.0 c.from_residual.ensures.1
    (takes_same c.args.dir.now (g.T.Dest.seen c.args.dest.now).disk.told c.in_err-begin.field-0.0 c.in_err-begin.ensures.taken)

pub returns-in_err-begin-clause-right : goal.returns-in_err-begin-clause-right
returns-in_err-begin-clause-right g c =
    returned_as (λ (r : Result ℕ RestoreError). IfSome (g.B.Disk.seen c.args.disk.now).told (λ story. Tells (first_wrong c.args.meta.now.id (tree_now (state_of story)) (in_order c.args.meta.now.id c.args.meta.now.files)) r)) c.from_residual.result c.in_err-begin.field-0.0 c.from_residual.ensures.1
    (begun_first c.args.meta.now.id (g.B.Disk.seen c.args.disk.now).told (in_order c.args.meta.now.id c.args.meta.now.files) c.in_err-begin.field-0.0 c.in_err-begin.ensures.kind)

pub returns-in_err-begin-clause-went : goal.returns-in_err-begin-clause-went
returns-in_err-begin-clause-went g c story tells =
    returned_as (λ (r : Result ℕ RestoreError). Restored c.args.meta.now (g.B.Disk.seen c.args.disk.now).told (state_of story) c.args.dir.now story (g.T.Dest.seen c.begin.new.dest).disk.told r) c.from_residual.result c.in_err-begin.field-0.0 c.from_residual.ensures.1
    (begin_leaves c.args.meta.now (g.B.Disk.seen c.args.disk.now).told (state_of story) c.args.dir.now c.in_err-begin.field-0.0 (c.in_err-begin.ensures.went story tells))

pub returns-in_err-begin-clause-cause : goal.returns-in_err-begin-clause-cause
returns-in_err-begin-clause-cause g c =
    let d0 = g.B.Disk.seen c.args.disk.now in
    let t0 = (g.T.Dest.seen c.args.dest.now).disk in
    let t1 = (g.T.Dest.seen c.begin.new.dest).disk in
    returned_as (λ (r : Result ℕ RestoreError). HasCauses d0 d0 t0 t1 r) c.from_residual.result c.in_err-begin.field-0.0 c.from_residual.ensures.1
    (dest_causes {T = Unit {0}} d0 t0 t1 c.in_err-begin.field-0.0 c.in_err-begin.ensures.cause)

pub returns-in_err-restore_others-clause-halted : goal.returns-in_err-restore_others-clause-halted
returns-in_err-restore_others-clause-halted g c first =
    returned_as (λ (r : Result ℕ RestoreError). HaltsBy (g.T.Dest.seen c.args.dest.now).halt first r) c.from_residual-in_err-restore_others.result c.in_err-restore_others.field-0.0 c.from_residual-in_err-restore_others.ensures.1
    (halted_past (g.T.Dest.seen c.args.dest.now).halt first c.in_err-restore_others.field-0.0 c.in_err-restore_others.ensures.past (c.in_ok-begin.ensures.halted first))

pub returns-in_err-restore_others-clause-taken : goal.returns-in_err-restore_others-clause-taken
returns-in_err-restore_others-clause-taken g c =
    returned_as (λ (r : Result ℕ RestoreError). TakesBy c.args.dir.now (g.T.Dest.seen c.args.dest.now).disk.told r) c.from_residual-in_err-restore_others.result c.in_err-restore_others.field-0.0 c.from_residual-in_err-restore_others.ensures.1
    (takes_past c.args.dir.now (g.T.Dest.seen c.args.dest.now).disk.told c.in_err-restore_others.field-0.0 c.in_err-restore_others.ensures.past)

pub returns-in_err-restore_others-clause-right : goal.returns-in_err-restore_others-clause-right
returns-in_err-restore_others-clause-right g c =
    returned_as (λ (r : Result ℕ RestoreError). IfSome (g.B.Disk.seen c.args.disk.now).told (λ story. Tells (first_wrong c.args.meta.now.id (tree_now (state_of story)) (in_order c.args.meta.now.id c.args.meta.now.files)) r)) c.from_residual-in_err-restore_others.result c.in_err-restore_others.field-0.0 c.from_residual-in_err-restore_others.ensures.1
    (told_before c.args.meta.now.id (g.B.Disk.seen c.args.disk.now).told (others c.args.meta.now.id c.args.meta.now.files) (currents c.args.meta.now.id c.args.meta.now.files) c.in_err-restore_others.field-0.0 (subst (λ (fs : List MetaFile). IsToldFirst c.args.meta.now.id (g.B.Disk.seen c.args.disk.now).told (others c.args.meta.now.id fs) c.in_err-restore_others.field-0.0) c.as_slice-files.ensures c.in_err-restore_others.ensures.wrong))

pub returns-in_err-restore_others-clause-went : goal.returns-in_err-restore_others-clause-went
returns-in_err-restore_others-clause-went g c story tells =
    returned_as (λ (r : Result ℕ RestoreError). Restored c.args.meta.now (g.B.Disk.seen c.args.disk.now).told (state_of story) c.args.dir.now story (g.T.Dest.seen c.restore_others.new.dest).disk.told r) c.from_residual-in_err-restore_others.result c.in_err-restore_others.field-0.0 c.from_residual-in_err-restore_others.ensures.1
    (others_leave c.args.meta.now (g.B.Disk.seen c.args.disk.now).told (state_of story) c.args.dir.now c.in_err-restore_others.field-0.0 c.in_err-restore_others.ensures.past (c.in_ok-begin.ensures.went story tells)
    (λ next mid building. c.restore_others.ensures.went (state_of story) next c.args.dir.now mid c.in_ok-begin.ensures.ready building))

pub returns-in_err-restore_others-clause-cause : goal.returns-in_err-restore_others-clause-cause
returns-in_err-restore_others-clause-cause g c =
    let d0 = g.B.Disk.seen c.args.disk.now in
    let d1 = g.B.Disk.seen c.restore_others.new.disk in
    let t0 = (g.T.Dest.seen c.args.dest.now).disk in
    let t1 = (g.T.Dest.seen c.begin.new.dest).disk in
    let t2 = (g.T.Dest.seen c.restore_others.new.dest).disk in
    returned_as (λ (r : Result ℕ RestoreError). HasCauses d0 d1 t0 t2 r) c.from_residual-in_err-restore_others.result c.in_err-restore_others.field-0.0 c.from_residual-in_err-restore_others.ensures.1
    (causes_within {T = Unit {0}} d0 d0 d1 d1 t0 t1 t2 t2 c.in_err-restore_others.field-0.0 (later_same d0) (later_same d1) c.in_ok-begin.ensures.cause.dest_later (later_same t2) c.in_err-restore_others.ensures.cause)

pub returns-in_err-restore_current-clause-halted : goal.returns-in_err-restore_current-clause-halted
returns-in_err-restore_current-clause-halted g c first =
    returned_as (λ (r : Result ℕ RestoreError). HaltsBy (g.T.Dest.seen c.args.dest.now).halt first r) c.from_residual-in_err-restore_current.result c.in_err-restore_current.field-0.0 c.from_residual-in_err-restore_current.ensures.1
    (halted_past (g.T.Dest.seen c.args.dest.now).halt first c.in_err-restore_current.field-0.0 c.in_err-restore_current.ensures.past (c.in_ok-begin.ensures.halted first))

pub returns-in_err-restore_current-clause-taken : goal.returns-in_err-restore_current-clause-taken
returns-in_err-restore_current-clause-taken g c =
    returned_as (λ (r : Result ℕ RestoreError). TakesBy c.args.dir.now (g.T.Dest.seen c.args.dest.now).disk.told r) c.from_residual-in_err-restore_current.result c.in_err-restore_current.field-0.0 c.from_residual-in_err-restore_current.ensures.1
    (takes_past c.args.dir.now (g.T.Dest.seen c.args.dest.now).disk.told c.in_err-restore_current.field-0.0 c.in_err-restore_current.ensures.past)

pub returns-in_err-restore_current-clause-right : goal.returns-in_err-restore_current-clause-right
returns-in_err-restore_current-clause-right g c =
    let restored = c.in_ok-restore_others.ensures.restored in
    returned_as (λ (r : Result ℕ RestoreError). IfSome (g.B.Disk.seen c.args.disk.now).told (λ story. Tells (first_wrong c.args.meta.now.id (tree_now (state_of story)) (in_order c.args.meta.now.id c.args.meta.now.files)) r)) c.from_residual-in_err-restore_current.result c.in_err-restore_current.field-0.0 c.from_residual-in_err-restore_current.ensures.1
    (told_behind c.args.meta.now.id (g.B.Disk.seen c.args.disk.now).told (others c.args.meta.now.id c.args.meta.now.files) (currents c.args.meta.now.id c.args.meta.now.files) restored.0 c.in_err-restore_current.field-0.0 (subst (λ (fs : List MetaFile). AreRestored c.args.meta.now.id (g.B.Disk.seen c.args.disk.now).told (others c.args.meta.now.id fs) restored.0) c.as_slice-files.ensures restored.1)
    (subst (λ (fs : List MetaFile). IsToldFirst c.args.meta.now.id (g.B.Disk.seen c.args.disk.now).told (currents c.args.meta.now.id fs) c.in_err-restore_current.field-0.0) c.as_slice-files.ensures
    (subst (λ (o : Option Story). IsToldFirst c.args.meta.now.id o (currents c.args.meta.now.id c.as_slice-files.result.now) c.in_err-restore_current.field-0.0) c.restore_others.ensures.told c.in_err-restore_current.ensures.wrong)))

pub returns-in_err-restore_current-clause-went : goal.returns-in_err-restore_current-clause-went
returns-in_err-restore_current-clause-went g c story tells =
    let restored = c.in_ok-restore_others.ensures.restored in
    returned_as (λ (r : Result ℕ RestoreError). Restored c.args.meta.now (g.B.Disk.seen c.args.disk.now).told (state_of story) c.args.dir.now story (g.T.Dest.seen c.restore_current.new.dest).disk.told r) c.from_residual-in_err-restore_current.result c.in_err-restore_current.field-0.0 c.from_residual-in_err-restore_current.ensures.1
    (current_leaves c.args.meta.now (g.B.Disk.seen c.args.disk.now).told (state_of story) c.args.dir.now restored.0
    (subst (λ (fs : List MetaFile). AreRestored c.args.meta.now.id (g.B.Disk.seen c.args.disk.now).told (others c.args.meta.now.id fs) restored.0) c.as_slice-files.ensures restored.1)
    (went_then {I = IsBuilding (state_of story) (just_begun c.args.dir.now) []} (c.in_ok-begin.ensures.went story tells) (λ next mid building. restored.3 (state_of story) next c.args.dir.now mid c.in_ok-begin.ensures.ready building))
    c.in_err-restore_current.field-0.0 c.in_err-restore_current.ensures.past
    (λ next mid building.
    subst (λ (fs : List MetaFile). Ended c.args.meta.now.id (g.B.Disk.seen c.args.disk.now).told (currents c.args.meta.now.id fs) (state_of story) c.args.dir.now restored.0 next (g.T.Dest.seen c.restore_current.new.dest).disk.told (Err c.in_err-restore_current.field-0.0)) c.as_slice-files.ensures
    (subst (λ (o : Option Story). Ended c.args.meta.now.id o (currents c.args.meta.now.id c.as_slice-files.result.now) (state_of story) c.args.dir.now restored.0 next (g.T.Dest.seen c.restore_current.new.dest).disk.told (Err c.in_err-restore_current.field-0.0)) c.restore_others.ensures.told
    (c.in_err-restore_current.ensures.went (state_of story) next (begun_with c.args.dir.now restored.0) restored.0 mid (restored.2 c.args.dir.now c.in_ok-begin.ensures.ready) building))))

pub returns-in_err-restore_current-clause-cause : goal.returns-in_err-restore_current-clause-cause
returns-in_err-restore_current-clause-cause g c =
    let d0 = g.B.Disk.seen c.args.disk.now in
    let d1 = g.B.Disk.seen c.restore_others.new.disk in
    let d2 = g.B.Disk.seen c.restore_current.new.disk in
    let t0 = (g.T.Dest.seen c.args.dest.now).disk in
    let t1 = (g.T.Dest.seen c.begin.new.dest).disk in
    let t2 = (g.T.Dest.seen c.restore_others.new.dest).disk in
    let t3 = (g.T.Dest.seen c.restore_current.new.dest).disk in
    returned_as (λ (r : Result ℕ RestoreError). HasCauses d0 d2 t0 t3 r) c.from_residual-in_err-restore_current.result c.in_err-restore_current.field-0.0 c.from_residual-in_err-restore_current.ensures.1
    (causes_within {T = Unit {0}} d0 d1 d2 d2 t0 t2 t3 t3 c.in_err-restore_current.field-0.0 c.in_ok-restore_others.ensures.cause.disk_later (later_same d2)
    (later_trans t0 t1 t2 c.in_ok-begin.ensures.cause.dest_later c.in_ok-restore_others.ensures.cause.dest_later) (later_same t3) c.in_err-restore_current.ensures.cause)

pub returns-clause-halted : goal.returns-clause-halted
returns-clause-halted g c first =
    halted_ok (g.T.Dest.seen c.args.dest.now).halt first c.args.meta.now.sequence (c.in_ok-begin.ensures.halted first)

pub returns-clause-right : goal.returns-clause-right
returns-clause-right g c =
    let restored = c.in_ok-restore_others.ensures.restored in
    let last = c.in_ok-restore_current.ensures.restored in
    all_right c.args.meta.now.id (g.B.Disk.seen c.args.disk.now).told (in_order c.args.meta.now.id c.args.meta.now.files) (restored.0 ++ last.0 ∷ [])
    (restored_both c.args.meta.now.id (g.B.Disk.seen c.args.disk.now).told (others c.args.meta.now.id c.args.meta.now.files) (currents c.args.meta.now.id c.args.meta.now.files) restored.0 (last.0 ∷ [])
    (subst (λ (fs : List MetaFile). AreRestored c.args.meta.now.id (g.B.Disk.seen c.args.disk.now).told (others c.args.meta.now.id fs) restored.0) c.as_slice-files.ensures restored.1)
    (subst (λ (fs : List MetaFile). AreRestored c.args.meta.now.id (g.B.Disk.seen c.args.disk.now).told (currents c.args.meta.now.id fs) (last.0 ∷ [])) c.as_slice-files.ensures
    (subst (λ (o : Option Story). AreRestored c.args.meta.now.id o (currents c.args.meta.now.id c.as_slice-files.result.now) (last.0 ∷ [])) c.restore_others.ensures.told last.1)))

pub returns-clause-went : goal.returns-clause-went
returns-clause-went g c story tells =
    let restored = c.in_ok-restore_others.ensures.restored in
    all_restored c.args.meta.now (g.B.Disk.seen c.args.disk.now).told (state_of story) c.args.dir.now restored.0
    (subst (λ (fs : List MetaFile). AreRestored c.args.meta.now.id (g.B.Disk.seen c.args.disk.now).told (others c.args.meta.now.id fs) restored.0) c.as_slice-files.ensures restored.1)
    (went_then {I = IsBuilding (state_of story) (just_begun c.args.dir.now) []} (c.in_ok-begin.ensures.went story tells) (λ next mid building. restored.3 (state_of story) next c.args.dir.now mid c.in_ok-begin.ensures.ready building))
    c.args.meta.now.sequence
    (λ next mid building.
    subst (λ (fs : List MetaFile). Ended c.args.meta.now.id (g.B.Disk.seen c.args.disk.now).told (currents c.args.meta.now.id fs) (state_of story) c.args.dir.now restored.0 next (g.T.Dest.seen c.restore_current.new.dest).disk.told (Ok tt)) c.as_slice-files.ensures
    (subst (λ (o : Option Story). Ended c.args.meta.now.id o (currents c.args.meta.now.id c.as_slice-files.result.now) (state_of story) c.args.dir.now restored.0 next (g.T.Dest.seen c.restore_current.new.dest).disk.told (Ok tt)) c.restore_others.ensures.told
    (c.in_ok-restore_current.ensures.went (state_of story) next (begun_with c.args.dir.now restored.0) restored.0 mid (restored.2 c.args.dir.now c.in_ok-begin.ensures.ready) building)))

pub returns-clause-cause : goal.returns-clause-cause
returns-clause-cause g c =
    let d0 = g.B.Disk.seen c.args.disk.now in
    let d1 = g.B.Disk.seen c.restore_others.new.disk in
    let d2 = g.B.Disk.seen c.restore_current.new.disk in
    let t0 = (g.T.Dest.seen c.args.dest.now).disk in
    let t1 = (g.T.Dest.seen c.begin.new.dest).disk in
    let t2 = (g.T.Dest.seen c.restore_others.new.dest).disk in
    let t3 = (g.T.Dest.seen c.restore_current.new.dest).disk in
    causes_ok d0 d2 t0 t3 c.args.meta.now.sequence (later_trans d0 d1 d2 c.in_ok-restore_others.ensures.cause.disk_later c.in_ok-restore_current.ensures.cause.disk_later)
    (later_trans t0 t2 t3 (later_trans t0 t1 t2 c.in_ok-begin.ensures.cause.dest_later c.in_ok-restore_others.ensures.cause.dest_later) c.in_ok-restore_current.ensures.cause.dest_later)
