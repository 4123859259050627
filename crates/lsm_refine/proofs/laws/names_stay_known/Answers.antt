use Rattle.lsm_refine.proofs.NeededLemmas.{quiet_stays, known_stay, files_stay, clear_stays, alone_stays}
use Rattle.lsm_refine.proofs.laws.names_stay_known.Goals as goal

pub returns-clause-quiet : goal.returns-clause-quiet
returns-clause-quiet c = quiet_stays

pub returns-clause-known : goal.returns-clause-known
returns-clause-known c = known_stay

pub returns-clause-files : goal.returns-clause-files
returns-clause-files c = files_stay

pub returns-clause-clear : goal.returns-clause-clear
returns-clause-clear c = clear_stays

pub returns-clause-alone : goal.returns-clause-alone
returns-clause-alone c = alone_stays
