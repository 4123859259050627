use Rattle.lsm_refine.proofs.NeededLemmas.{append_spares, sync_spares, names_spare}
use Rattle.lsm_refine.proofs.laws.the_last_log_is_apart.Goals as goal

pub returns-clause-append : goal.returns-clause-append
returns-clause-append c = append_spares

pub returns-clause-sync : goal.returns-clause-sync
returns-clause-sync c = sync_spares

pub returns-clause-names : goal.returns-clause-names
returns-clause-names c = names_spare
