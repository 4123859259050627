-- Each exit, by what the calls before it left.
use Rattle.std.proofs.Common.{refl, ap}
use Rattle.lsm_disk.specs.Refusals.{no_room}
use Rattle.lsm_disk.specs.declared.calls.DiskRefusal.{DiskRefusal}
use Rattle.lsm_disk.specs.declared.calls.DiskCall.TheVariants as call
use Rattle.lsm_publish.proofs.Writing.{write_refused, refused_create, refused_append, refused_sync, refused_names, after_names}
use Rattle.lsm_publish.proofs.Answering.{append_answers, sync_answers, answers_why}
use Rattle.lsm_dest.proofs.ending.AnyEnding.write_current.Goals as goal

pub returns-in-Err-clause-went : goal.returns-in-Err-clause-went
returns-in-Err-clause-went g c story path old tells still apart =
    write_refused c.args.temporary.now path old _ c.args.bytes.now call.Create c.in-Err.why c.refused.result c.refused.ensures
    (refused_create c.args.temporary.now path old _ c.args.bytes.now apart story tells (record { still = still; next = refl }) c.in-Err.why c.in-Err.ensures.did c.in-Err.ensures.answer)

pub returns-in-Err-append-clause-went : goal.returns-in-Err-append-clause-went
returns-in-Err-append-clause-went g c story path old tells still apart =
    write_refused c.args.temporary.now path old _ c.args.bytes.now call.Append c.in-Err-append.why c.refused-in-Err-append.result c.refused-in-Err-append.ensures
    (refused_append c.args.temporary.now path old _ c.args.bytes.now apart story tells (record { still = still; next = refl }) c.in_default.ensures.did c.in-Err-append.why c.in-Err-append.ensures.did c.in-Err-append.ensures.answer)

pub returns-in-Err-sync-clause-went : goal.returns-in-Err-sync-clause-went
returns-in-Err-sync-clause-went g c story path old tells still apart =
    write_refused c.args.temporary.now path old _ c.args.bytes.now call.Sync c.in-Err-sync.why c.refused-in-Err-sync.result c.refused-in-Err-sync.ensures
    (refused_sync c.args.temporary.now path old _ c.args.bytes.now apart story tells (record { still = still; next = refl }) c.in_default.ensures.did c.in_default-append.ensures.did c.in-Err-sync.why c.in-Err-sync.ensures.did c.in-Err-sync.ensures.answer)

pub returns-in-Err-sync_names-clause-went : goal.returns-in-Err-sync_names-clause-went
returns-in-Err-sync_names-clause-went g c story path old tells still apart =
    write_refused c.args.temporary.now path old _ c.args.bytes.now call.SyncNames c.in-Err-sync_names.why c.refused-in-Err-sync_names.result c.refused-in-Err-sync_names.ensures
    (refused_names c.args.temporary.now path old _ c.args.bytes.now apart story tells (record { still = still; next = refl })
    c.in_default.ensures.did c.in_default-append.ensures.did c.in_default-sync.ensures.did c.in-Err-sync_names.why c.in-Err-sync_names.ensures.did c.in-Err-sync_names.ensures.answer)

pub returns-clause-went : goal.returns-clause-went
returns-clause-went g c story path old tells still apart =
    after_names c.args.temporary.now path old _ c.args.bytes.now apart story tells (record { still = still; next = refl })
    c.in_default.ensures.did c.in_default-append.ensures.did c.in_default-sync.ensures.did c.in_default-sync_names.ensures.did

pub returns-in-Err-append-clause-answer : goal.returns-in-Err-append-clause-answer
returns-in-Err-append-clause-answer g c =
    answers_why (no_room c.args.temporary.now) (g.D.Disk.seen c.args.self.now).told c.refused-in-Err-append.result c.in-Err-append.why (ap (λ (r : DiskRefusal). r.why) c.refused-in-Err-append.ensures)
    (append_answers c.args.temporary.now c.args.bytes.now _ _ c.in-Err-append.why c.in_default.ensures.answer c.in_default.ensures.did c.in-Err-append.ensures.answer)

pub returns-in-Err-sync-clause-answer : goal.returns-in-Err-sync-clause-answer
returns-in-Err-sync-clause-answer g c =
    answers_why (no_room c.args.temporary.now) (g.D.Disk.seen c.args.self.now).told c.refused-in-Err-sync.result c.in-Err-sync.why (ap (λ (r : DiskRefusal). r.why) c.refused-in-Err-sync.ensures)
    (sync_answers c.args.temporary.now c.args.bytes.now _ _ _ c.in-Err-sync.why c.in_default.ensures.answer c.in_default.ensures.did c.in_default-append.ensures.did c.in-Err-sync.ensures.answer)
