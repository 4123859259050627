use Rattle.lsm_refine.proofs.NeededLemmas.{current_stays, edits_stay, tables_stay, logs_stay}
use Rattle.lsm_refine.proofs.laws.needed_files_stay.Goals as goal

pub returns-clause-current : goal.returns-clause-current
returns-clause-current c = current_stays

pub returns-clause-edits : goal.returns-clause-edits
returns-clause-edits c = edits_stay

pub returns-clause-tables : goal.returns-clause-tables
returns-clause-tables c = tables_stay

pub returns-clause-logs : goal.returns-clause-logs
returns-clause-logs c = logs_stay
