use Rattle.lsm_restoring.proofs.RestoredStores.{restored_good, failed_good}
use Rattle.lsm_restoring.proofs.restore_laws.a_restore_leaves_a_good_store.Goals as goal

pub returns-clause-goes_on : goal.returns-clause-goes_on
returns-clause-goes_on c = restored_good

pub returns-clause-failed : goal.returns-clause-failed
returns-clause-failed c = failed_good
