use Rattle.lsm_opening.proofs.RowFiles.{file_appended, file_not_appended}
use Rattle.lsm_opening.proofs.row_table.append.Goals as goal

pub returns-in-Ok-clause-went : goal.returns-in-Ok-clause-went
returns-in-Ok-clause-went g c start before was =
    file_appended c.args.path.now start before was c.args.bytes.now c.in-Ok.ensures.did

pub returns-in-Err-clause-went : goal.returns-in-Err-clause-went
returns-in-Err-clause-went g c start before was =
    file_not_appended c.args.path.now start before was c.args.bytes.now c.in-Err.why c.in-Err.ensures.did
