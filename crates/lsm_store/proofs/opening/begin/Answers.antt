-- The lemmas of `OpenBegins`.
use Rattle.std.proofs.Common.{ap}
use Rattle.lsm_disk.specs.declared.calls.DiskRefusal.{DiskRefusal}
use Rattle.lsm_store.proofs.OpenBegins.{sync_made, sync_refused}
use Rattle.lsm_store.proofs.opening.begin.Goals as goal

pub returns-in-Ok : goal.returns-in-Ok
returns-in-Ok g c =
    let seen = g.D.Disk.seen in
    sync_made c.args.dir.now c.as_bytes-name.ensures.folder (seen c.args.disk.now) (seen c.sync_names.new.self)
    c.in-Ok.ensures.cause.faults_later c.in-Ok.ensures.cause.refusals_later (seen c.begin_synced.new.disk) c.in-Ok.ensures.did
    c.begin_synced.result c.begin_synced.ensures

pub returns-in-Err : goal.returns-in-Err
returns-in-Err g c =
    let seen = g.D.Disk.seen in
    sync_refused c.args.dir.now c.as_bytes-name.ensures.folder (seen c.args.disk.now) (seen c.sync_names.new.self)
    c.in-Err.ensures.cause.faults_later c.in-Err.ensures.cause.refusals_later c.in-Err.why c.in-Err.ensures.did
    c.in-Err.ensures.cause c.refusal.result (ap (λ (r : DiskRefusal). r.why) c.refusal.ensures) c.error_of.result
    c.error_of.ensures
