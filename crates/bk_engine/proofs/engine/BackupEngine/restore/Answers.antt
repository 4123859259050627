-- The answer of the restore of the meta that was found.
use Rattle.std.specs.Prelude.{Ok, Err}
use Rattle.std.proofs.Common.{refl, subst}
use Rattle.bk_engine.specs.Shown.{Shown}
use Rattle.bk_engine.proofs.Restorings.{found_is_meta, found_in, refused_as, IsRestored, restored_as}
use Rattle.bk_engine.proofs.engine.BackupEngine.restore.Goals as goal

pub restore-requires-after_bounds : goal.restore-requires-after_bounds
restore-requires-after_bounds g c κs within =
    found_is_meta c.args.id c.self.inside.metas.items c.in-Some.meta.now c.self.invariant.0 (found_in c.args.id c.deref.result.now c.self.inside.metas.items c.in-Some.meta.now c.in-Some.ensures c.deref.ensures.value)

pub returns-in_err-restore-in-Some-clause-restored : goal.returns-in_err-restore-in-Some-clause-restored
returns-in_err-restore-in-Some-clause-restored g c =
    let e = c.in_err-restore-in-Some.field-0.0 in
    let all = c.in_err-restore-in-Some.ensures in
    let new = g.B.Disk.seen c.restore.new.disk in
    let before = g.T.Dest.seen c.args.dest.now in
    let after = g.T.Dest.seen c.restore.new.dest in
    subst (λ (shown : Shown). IsRestored shown.disk new before after c.args.dir.now c.args.id shown.metas c.from_residual.result) c.self.view_is
    (restored_as (g.B.Disk.seen c.self.inside.disk) new before after c.args.dir.now c.args.id c.self.inside.metas.items c.from_residual.result c.in-Some.meta.now (Err e)
    (found_in c.args.id c.deref.result.now c.self.inside.metas.items c.in-Some.meta.now c.in-Some.ensures c.deref.ensures.value) (refused_as c.from_residual.result e c.from_residual.ensures.1)
    (record { sequence = all.sequence; halted = all.halted; taken = all.taken; right = all.right; went = all.went; cause = all.cause }))

pub returns-in_ok-restore-in-Some-clause-restored : goal.returns-in_ok-restore-in-Some-clause-restored
returns-in_ok-restore-in-Some-clause-restored g c =
    let sequence = c.in_ok-restore-in-Some.field-0 in
    let all = c.in_ok-restore-in-Some.ensures in
    let new = g.B.Disk.seen c.restore.new.disk in
    let before = g.T.Dest.seen c.args.dest.now in
    let after = g.T.Dest.seen c.restore.new.dest in
    subst (λ (shown : Shown). IsRestored shown.disk new before after c.args.dir.now c.args.id shown.metas (Ok sequence)) c.self.view_is
    (restored_as (g.B.Disk.seen c.self.inside.disk) new before after c.args.dir.now c.args.id c.self.inside.metas.items (Ok sequence) c.in-Some.meta.now (Ok sequence)
    (found_in c.args.id c.deref.result.now c.self.inside.metas.items c.in-Some.meta.now c.in-Some.ensures c.deref.ensures.value) refl
    (record { sequence = all.sequence; halted = all.halted; taken = all.taken; right = all.right; went = all.went; cause = all.cause }))
