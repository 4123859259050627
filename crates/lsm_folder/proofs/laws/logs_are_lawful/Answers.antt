use Rattle.lsm_folder.proofs.NoTableLemmas.{lawful}
use Rattle.lsm_folder.proofs.OneLogLemmas.{has_no_tables}
use Rattle.lsm_folder.proofs.laws.logs_are_lawful.Goals as goal

pub returns-clause-lawful : goal.returns-clause-lawful
returns-clause-lawful c = lawful

pub returns-clause-one_log : goal.returns-clause-one_log
returns-clause-one_log c = has_no_tables
