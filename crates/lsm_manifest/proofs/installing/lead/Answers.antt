-- Each exit, by what the calls before it left.
use Rattle.std.specs.Prelude.{Ok}
use Rattle.lsm_manifest.proofs.Answering.{names_answers, switch_answers, rename_answers, last_answers}
use Rattle.lsm_manifest.proofs.Leading.{refused_names, refused_rename, refused_last, all_led}
use Rattle.lsm_manifest.proofs.Wanting.{rename_wants, sync_wants}
use Rattle.lsm_manifest.proofs.installing.lead.Goals as goal

pub returns-in-Err-clause-went : goal.returns-in-Err-clause-went
returns-in-Err-clause-went g c story old id k bytes other text tells still temporary new spares only ne apart =
    refused_names c.args.temporary.now c.args.path.now other old id k bytes text spares story tells
    (still, temporary, new) c.refusal.result c.in-Err.why c.refusal.ensures.path c.in-Err.ensures.did

pub returns-in-Err-rename-clause-went : goal.returns-in-Err-rename-clause-went
returns-in-Err-rename-clause-went g c story old id k bytes other text tells still temporary new spares only ne apart =
    refused_rename c.args.temporary.now c.args.path.now other old id k bytes text spares story tells
    (still, temporary, new) c.in_default.ensures.did
    c.in-Err-rename.why c.refusal-in-Err-rename.result
    (record {
      call_is = c.refusal-in-Err-rename.ensures.call;
      path_is = c.refusal-in-Err-rename.ensures.path;
      why_is =
          c.refusal-in-Err-rename.ensures.why;
    })
    c.in-Err-rename.ensures.did c.in-Err-rename.ensures.answer

pub returns-in-Err-sync_names-clause-went : goal.returns-in-Err-sync_names-clause-went
returns-in-Err-sync_names-clause-went g c story old id k bytes other text tells still temporary new spares only ne apart =
    refused_last c.args.temporary.now c.args.path.now other old id k bytes text spares story tells
    (still, temporary, new) c.in_default.ensures.did c.in_default-rename.ensures.did
    c.in-Err-sync_names.why c.refusal-in-Err-sync_names.result
    (record {
      call_is = c.refusal-in-Err-sync_names.ensures.call;
      path_is = c.refusal-in-Err-sync_names.ensures.path;
      why_is = c.refusal-in-Err-sync_names.ensures.why;
    })
    c.in-Err-sync_names.ensures.did c.in-Err-sync_names.ensures.answer

pub returns-clause-went : goal.returns-clause-went
returns-clause-went g c story old id k bytes other text tells still temporary new spares only ne apart =
    all_led c.args.temporary.now c.args.path.now other old id k bytes text spares story tells
    (still, temporary, new) c.in_default.ensures.did c.in_default-rename.ensures.did apart ne only
    c.in_default-sync_names.ensures.did

pub returns-in-Err-clause-answer : goal.returns-in-Err-clause-answer
returns-in-Err-clause-answer g c =
    names_answers c.args.temporary.now c.args.path.now
    (g.D.Disk.seen c.args.disk.now).told c.refusal.result c.in-Err.why c.refusal.ensures.why c.in-Err.ensures.answer

pub returns-in-Err-rename-clause-answer : goal.returns-in-Err-rename-clause-answer
returns-in-Err-rename-clause-answer g c =
    rename_answers c.args.temporary.now c.args.path.now _ _ c.refusal-in-Err-rename.result c.in-Err-rename.why
    c.refusal-in-Err-rename.ensures.why c.in_default.ensures.did c.in-Err-rename.ensures.answer

pub returns-in-Err-sync_names-clause-answer : goal.returns-in-Err-sync_names-clause-answer
returns-in-Err-sync_names-clause-answer g c =
    last_answers c.args.temporary.now c.args.path.now _ _ _ c.refusal-in-Err-sync_names.result c.in-Err-sync_names.why
    c.refusal-in-Err-sync_names.ensures.why c.in_default.ensures.did c.in_default-rename.ensures.did
    c.in-Err-sync_names.ensures.answer

pub returns-clause-answer : goal.returns-clause-answer
returns-clause-answer g c = switch_answers c.args.temporary.now c.args.path.now _ _ (Ok
    (tt {0})) c.in_default.ensures.did c.in_default-rename.ensures.answer

pub returns-in-Err-clause-wanting : goal.returns-in-Err-clause-wanting
returns-in-Err-clause-wanting g c =
    sync_wants c.refusal.result c.in-Err.why c.refusal.ensures.why c.in-Err.ensures.memory

pub returns-in-Err-rename-clause-wanting : goal.returns-in-Err-rename-clause-wanting
returns-in-Err-rename-clause-wanting g c =
    rename_wants c.args.path.now c.refusal-in-Err-rename.result c.in-Err-rename.why c.refusal-in-Err-rename.ensures.path
    c.refusal-in-Err-rename.ensures.why _ _ _ _ c.in-Err-rename.ensures.did c.refusal-in-Err-rename.ensures.call
    c.in_default.ensures.did

pub returns-in-Err-sync_names-clause-wanting : goal.returns-in-Err-sync_names-clause-wanting
returns-in-Err-sync_names-clause-wanting g c =
    sync_wants c.refusal-in-Err-sync_names.result c.in-Err-sync_names.why c.refusal-in-Err-sync_names.ensures.why
    c.in-Err-sync_names.ensures.memory
