-- The lemmas of `NewFolders`.
use Rattle.lsm_store.proofs.NewFolders.{folder_unmade, folder_unsure, folder_sure}
use Rattle.lsm_store.proofs.opening_new.make_folder.Goals as goal

pub returns-in-Err-clause-went : goal.returns-in-Err-clause-went
returns-in-Err-clause-went g c story same =
    let seen = g.D.Disk.seen in
    folder_unmade c.args.path.now story (seen c.args.disk.now) (seen c.make_folder.new.self) same (Unit {0}) c.in-Err.why
    c.refusal.result c.in-Err.ensures.did

pub returns-in-Err-sync_names-clause-went : goal.returns-in-Err-sync_names-clause-went
returns-in-Err-sync_names-clause-went g c story same =
    let seen = g.D.Disk.seen in
    folder_unsure c.args.path.now story (seen c.args.disk.now) (seen c.make_folder.new.self) same
    c.in_default.ensures.did (Unit {0})
    (seen c.sync_names.new.self) c.in-Err-sync_names.why c.refusal-in-Err-sync_names.result
    c.in-Err-sync_names.ensures.did

pub returns-clause-went : goal.returns-clause-went
returns-clause-went g c story same =
    let seen = g.D.Disk.seen in
    folder_sure c.args.path.now story (seen c.args.disk.now) (seen c.make_folder.new.self) same
    c.in_default.ensures.did (seen c.sync_names.new.self) tt c.in_default-sync_names.ensures.did
