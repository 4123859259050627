-- Each exit, by what the calls before it left.
use Rattle.lsm_disk.specs.declared.calls.DiskCall.TheVariants as call
use Rattle.lsm_disk.specs.Refusals.{no_room}
use Rattle.lsm_publish.proofs.Answering.{append_answers, sync_answers, answers_why}
use Rattle.lsm_manifest.proofs.Filling.{fill_refused, refused_create, refused_append, refused_sync, after_sync}
use Rattle.lsm_manifest.proofs.Wanting.{create_wants, append_wants, sync_wants}
use Rattle.lsm_manifest.proofs.installing.write_new.Goals as goal

pub returns-in-Err-clause-went : goal.returns-in-Err-clause-went
returns-in-Err-clause-went g c story tells =
    fill_refused c.args.path.now _ c.args.bytes.now call.Create c.in-Err.why c.refusal.result c.refusal.ensures.call c.refusal.ensures.why
    (refused_create c.args.path.now c.args.bytes.now story tells c.in-Err.why c.in-Err.ensures.did c.in-Err.ensures.answer)

pub returns-in-Err-append-clause-went : goal.returns-in-Err-append-clause-went
returns-in-Err-append-clause-went g c story tells =
    fill_refused c.args.path.now _ c.args.bytes.now call.Append c.in-Err-append.why c.refusal-in-Err-append.result c.refusal-in-Err-append.ensures.call c.refusal-in-Err-append.ensures.why
    (refused_append c.args.path.now c.args.bytes.now story tells c.in_default.ensures.did c.in-Err-append.why c.in-Err-append.ensures.did c.in-Err-append.ensures.answer)

pub returns-in-Err-sync-clause-went : goal.returns-in-Err-sync-clause-went
returns-in-Err-sync-clause-went g c story tells =
    fill_refused c.args.path.now _ c.args.bytes.now call.Sync c.in-Err-sync.why c.refusal-in-Err-sync.result c.refusal-in-Err-sync.ensures.call c.refusal-in-Err-sync.ensures.why
    (refused_sync c.args.path.now c.args.bytes.now story tells c.in_default.ensures.did c.in_default-append.ensures.did c.in-Err-sync.why c.in-Err-sync.ensures.did c.in-Err-sync.ensures.answer)

pub returns-clause-went : goal.returns-clause-went
returns-clause-went g c story tells = after_sync c.args.path.now c.args.bytes.now story tells c.in_default.ensures.did c.in_default-append.ensures.did c.in_default-sync.ensures.did

pub returns-in-Err-append-clause-answer : goal.returns-in-Err-append-clause-answer
returns-in-Err-append-clause-answer g c =
    answers_why (no_room c.args.path.now) (g.D.Disk.seen c.args.disk.now).told c.refusal-in-Err-append.result c.in-Err-append.why c.refusal-in-Err-append.ensures.why
    (append_answers c.args.path.now c.args.bytes.now _ _ c.in-Err-append.why c.in_default.ensures.answer c.in_default.ensures.did c.in-Err-append.ensures.answer)

pub returns-in-Err-sync-clause-answer : goal.returns-in-Err-sync-clause-answer
returns-in-Err-sync-clause-answer g c =
    answers_why (no_room c.args.path.now) (g.D.Disk.seen c.args.disk.now).told c.refusal-in-Err-sync.result c.in-Err-sync.why c.refusal-in-Err-sync.ensures.why
    (sync_answers c.args.path.now c.args.bytes.now _ _ _ c.in-Err-sync.why c.in_default.ensures.answer c.in_default.ensures.did c.in_default-append.ensures.did c.in-Err-sync.ensures.answer)

pub returns-in-Err-clause-wanting : goal.returns-in-Err-clause-wanting
returns-in-Err-clause-wanting g c =
    create_wants c.args.path.now c.refusal.result c.in-Err.why c.refusal.ensures.path c.refusal.ensures.why _ _ _
    c.refusal.ensures.call c.in-Err.ensures.did

pub returns-in-Err-append-clause-wanting : goal.returns-in-Err-append-clause-wanting
returns-in-Err-append-clause-wanting g c =
    append_wants c.args.path.now c.refusal-in-Err-append.result c.in-Err-append.why c.refusal-in-Err-append.ensures.path
    c.refusal-in-Err-append.ensures.why _ _ _ _ c.in-Err-append.ensures.did c.refusal-in-Err-append.ensures.call
    c.in_default.ensures.did

pub returns-in-Err-sync-clause-wanting : goal.returns-in-Err-sync-clause-wanting
returns-in-Err-sync-clause-wanting g c =
    sync_wants c.refusal-in-Err-sync.result c.in-Err-sync.why c.refusal-in-Err-sync.ensures.why c.in-Err-sync.ensures.memory
