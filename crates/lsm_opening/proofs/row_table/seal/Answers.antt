use Rattle.lsm_opening.proofs.RowFiles.{file_is_synced, file_not_synced, file_sealed, file_not_sealed}
use Rattle.lsm_opening.proofs.row_table.seal.Goals as goal

pub returns-in-Err-clause-went : goal.returns-in-Err-clause-went
returns-in-Err-clause-went g c start bytes was =
    file_not_synced c.args.path.now start bytes was c.in-Err.why c.in-Err.ensures.did

pub returns-in-Err-sync_names-clause-went : goal.returns-in-Err-sync_names-clause-went
returns-in-Err-sync_names-clause-went g c start bytes was =
    file_not_sealed c.args.path.now start bytes (file_is_synced c.args.path.now start bytes was c.in_default.ensures.did)
    c.in-Err-sync_names.why c.in-Err-sync_names.ensures.did

pub returns-clause-went : goal.returns-clause-went
returns-clause-went g c start bytes was =
    file_sealed c.args.path.now start bytes (file_is_synced c.args.path.now start bytes was c.in_default.ensures.did)
    c.in_default-sync_names.ensures.did
