use Rattle.lsm_refine.proofs.OtherFileLemmas.{current_at, edits_at, tables_at, wal_at}
use Rattle.lsm_refine.proofs.frame_laws.other_files_stay.Goals as goal

pub returns-clause-current : goal.returns-clause-current
returns-clause-current c = current_at

pub returns-clause-edits : goal.returns-clause-edits
returns-clause-edits c = edits_at

pub returns-clause-tables : goal.returns-clause-tables
returns-clause-tables c = tables_at

pub returns-clause-log : goal.returns-clause-log
returns-clause-log c = wal_at
