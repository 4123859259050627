use Rattle.lsm_opening.specs.RowTables.{flushed_text}
use Rattle.lsm_opening.proofs.RowFiles.{file_created, file_not_created}
use Rattle.lsm_opening.proofs.row_table.write_table.Goals as goal

pub returns-in-Err-clause-went : goal.returns-in-Err-clause-went
returns-in-Err-clause-went g c start is = file_not_created c.args.path.now start is c.in-Err.why c.in-Err.ensures.did

pub returns-in-Ok-seal-clause-went : goal.returns-in-Ok-seal-clause-went
returns-in-Ok-seal-clause-went g c start is =
    c.in-Ok-seal.ensures.went start (flushed_text c.args.flush.now)
    (c.in-Ok.ensures.went start (file_created c.args.path.now start is c.in_default.ensures.did))

pub returns-in-Err-seal-clause-went : goal.returns-in-Err-seal-clause-went
returns-in-Err-seal-clause-went g c start is =
    c.in-Err-seal.ensures.went start (flushed_text c.args.flush.now)
    (c.in-Ok.ensures.went start (file_created c.args.path.now start is c.in_default.ensures.did))

pub returns-in-Err-write_pieces-clause-went : goal.returns-in-Err-write_pieces-clause-went
returns-in-Err-write_pieces-clause-went g c start is =
    c.in-Err-write_pieces.ensures.went start (file_created c.args.path.now start is c.in_default.ensures.did)
