use Rattle.lsm_refine.proofs.BegunManifests.{begun_manifest_good}
use Rattle.lsm_refine.proofs.MadeLemmas.{made_more}
use Rattle.lsm_refine.proofs.flush_laws.a_begun_manifest_leaves_a_good_store.Goals as goal

pub returns-clause-more : goal.returns-clause-more
returns-clause-more c = made_more

pub returns-clause-good : goal.returns-clause-good
returns-clause-good c = begun_manifest_good
