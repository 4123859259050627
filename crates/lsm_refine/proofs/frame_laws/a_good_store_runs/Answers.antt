use Rattle.lsm_refine.proofs.WritingLemmas.{runs, last_lone}
use Rattle.lsm_refine.proofs.frame_laws.a_good_store_runs.Goals as goal

pub returns-clause-runs : goal.returns-clause-runs
returns-clause-runs c = runs

pub returns-clause-lone : goal.returns-clause-lone
returns-clause-lone c = last_lone
