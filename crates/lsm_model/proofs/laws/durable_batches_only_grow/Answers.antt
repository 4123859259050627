use Rattle.lsm_model.proofs.CountLemmas.{durable_rises, synced_all}
use Rattle.lsm_model.proofs.laws.durable_batches_only_grow.Goals as goal

pub returns-clause-grows : goal.returns-clause-grows
returns-clause-grows c = durable_rises

pub returns-clause-synced : goal.returns-clause-synced
returns-clause-synced c = synced_all
