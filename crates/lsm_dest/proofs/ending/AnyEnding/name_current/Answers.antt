-- Each exit, by what the calls before it left.
use Rattle.lsm_disk.specs.declared.calls.DiskCall.TheVariants as call
use Rattle.lsm_publish.proofs.Switching.{switch_refused, refused_rename, refused_names, after_names}
use Rattle.lsm_dest.proofs.ending.AnyEnding.name_current.Goals as goal

pub returns-in-Err-clause-went : goal.returns-in-Err-clause-went
returns-in-Err-clause-went g c story old id bytes tells ready =
    switch_refused c.args.temporary.now c.args.path.now old id bytes call.Rename c.in-Err.why c.refused.result c.refused.ensures
    (refused_rename c.args.temporary.now c.args.path.now old id bytes story tells ready c.in-Err.why c.in-Err.ensures.did c.in-Err.ensures.answer)

pub returns-in-Err-sync_names-clause-went : goal.returns-in-Err-sync_names-clause-went
returns-in-Err-sync_names-clause-went g c story old id bytes tells ready =
    switch_refused c.args.temporary.now c.args.path.now old id bytes call.SyncNames c.in-Err-sync_names.why c.refused-in-Err-sync_names.result c.refused-in-Err-sync_names.ensures
    (refused_names c.args.temporary.now c.args.path.now old id bytes story tells ready c.in_default.ensures.did c.in-Err-sync_names.why c.in-Err-sync_names.ensures.did c.in-Err-sync_names.ensures.answer)

pub returns-clause-went : goal.returns-clause-went
returns-clause-went g c story old id bytes tells ready = after_names c.args.temporary.now c.args.path.now old id bytes story tells ready c.in_default.ensures.did c.in_default-sync_names.ensures.did
