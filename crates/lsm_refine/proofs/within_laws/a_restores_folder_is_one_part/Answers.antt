use Rattle.lsm_refine.proofs.WithinStores.{sane_is, sane_again}
use Rattle.lsm_refine.proofs.within_laws.a_restores_folder_is_one_part.Goals as goal

pub returns-clause-taken : goal.returns-clause-taken
returns-clause-taken c = sane_is

pub returns-clause-put : goal.returns-clause-put
returns-clause-put c = sane_again
