use Rattle.lsm_refine.proofs.WithinStores.{current_within, edits_within, tables_within, logs_within, quiet_within, known_within, files_within, written_within, sane_within}
use Rattle.lsm_refine.proofs.within_laws.the_stores_own_folder_stays.Goals as goal

pub returns-clause-current : goal.returns-clause-current
returns-clause-current c = current_within

pub returns-clause-edits : goal.returns-clause-edits
returns-clause-edits c = edits_within

pub returns-clause-tables : goal.returns-clause-tables
returns-clause-tables c = tables_within

pub returns-clause-logs : goal.returns-clause-logs
returns-clause-logs c = logs_within

pub returns-clause-quiet : goal.returns-clause-quiet
returns-clause-quiet c = quiet_within

pub returns-clause-known : goal.returns-clause-known
returns-clause-known c = known_within

pub returns-clause-files : goal.returns-clause-files
returns-clause-files c = files_within

pub returns-clause-written : goal.returns-clause-written
returns-clause-written c = written_within

pub returns-clause-sane : goal.returns-clause-sane
returns-clause-sane c = sane_within
