use Rattle.lsm_folder.proofs.StandingLemmas.{stands_for, front_stands}
use Rattle.lsm_folder.proofs.laws.one_log_stands.Goals as goal

pub returns-clause-whole : goal.returns-clause-whole
returns-clause-whole c = λ files text accepted torn has is. stands_for files text has accepted torn is

pub returns-clause-front : goal.returns-clause-front
returns-clause-front c = front_stands
