use Rattle.std.proofs.Common.{refl, subst, sym, List, ℕ}
use Rattle.std.specs.Prelude.{IfSome}
use Rattle.lsm_disk.specs.State.{state_of, file_synced}
use Rattle.lsm_disk.specs.Refusals.{no_file}
use Rattle.lsm_disk.specs.Answers.{Makes, RefusesBy}
use Rattle.lsm_disk.specs.declared.calls.DiskCall.TheVariants.{Sync}
use Rattle.ldb_script.specs.Stored.{Shown, Stands}
use Rattle.ldb_script.specs.Opening.{IsBroken}
use Rattle.ldb_script.proofs.Logs.{logs_synced, beside_synced, folders_sure, stands_synced}
use Rattle.ldb_script.proofs.Broken.{broken}
use Rattle.ldb_script.proofs.store.Store.sync.Goals as goal

pub returns-clause-syncs : goal.returns-clause-syncs
returns-clause-syncs g c start outcome was =
    let old : Shown = record { disk = g.D.Disk.seen c.self.inside.disk; log = c.self.inside.wal.path; len = c.self.inside.wal.len; contents = c.self.inside.pairs; sequence = c.self.inside.sequence } in
    let new : Shown = record { disk = g.D.Disk.seen c.sync.new.self; log = c.self.inside.wal.path; len = c.self.inside.wal.len; contents = c.self.inside.pairs; sequence = c.self.inside.sequence } in
    let stood : Stands start old outcome = subst (λ (s : Shown). Stands start s outcome) (sym c.self.view_is) was in
    let makes : Makes old.disk.told (file_synced old.log) new.disk.told = subst (λ (p : List ℕ). Makes old.disk.told (file_synced p) new.disk.told) c.path.ensures c.in_default.ensures.did in
    stands_synced start old new outcome stood refl
    (folders_sure start old new outcome stood makes refl)
    (logs_synced start old new outcome stood makes refl)
    (beside_synced start old new outcome stood makes refl)
    refl refl refl

pub returns-in-Err-clause-syncs : goal.returns-in-Err-clause-syncs
returns-in-Err-clause-syncs g c start outcome was =
    let old : Shown = record { disk = g.D.Disk.seen c.self.inside.disk; log = c.self.inside.wal.path; len = c.self.inside.wal.len; contents = c.self.inside.pairs; sequence = c.self.inside.sequence } in
    let new : Shown = record { disk = g.D.Disk.seen c.sync.new.self; log = c.self.inside.wal.path; len = c.self.inside.wal.len; contents = c.self.inside.pairs; sequence = c.self.inside.sequence } in
    let stood : Stands start old outcome = subst (λ (s : Shown). Stands start s outcome) (sym c.self.view_is) was in
    subst (λ (s : Shown). IsBroken start s new c.store_refused.result) c.self.view_is
    (subst (IsBroken start old new) (sym c.store_refused.ensures)
    (broken start old new outcome stood Sync c.path.result.now c.in-Err.error
    (subst (λ (p : List ℕ). IfSome old.disk.told (λ story. RefusesBy (no_file p (state_of story)) c.in-Err.error)) c.path.ensures c.in-Err.ensures.answer)
    c.in-Err.ensures.cause.counted))
