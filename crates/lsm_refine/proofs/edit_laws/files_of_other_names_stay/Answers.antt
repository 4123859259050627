use Rattle.lsm_refine.proofs.AmongLemmas.{whole_among}
use Rattle.lsm_refine.proofs.SwitchedLemmas.{wal_among, files_among, clear_among, restored_among}
use Rattle.lsm_refine.proofs.edit_laws.files_of_other_names_stay.Goals as goal

pub returns-clause-whole : goal.returns-clause-whole
returns-clause-whole c = whole_among

pub returns-clause-log : goal.returns-clause-log
returns-clause-log c = wal_among

pub returns-clause-files : goal.returns-clause-files
returns-clause-files c = files_among

pub returns-clause-clear : goal.returns-clause-clear
returns-clause-clear c = clear_among

pub returns-clause-restored : goal.returns-clause-restored
returns-clause-restored c = restored_among
