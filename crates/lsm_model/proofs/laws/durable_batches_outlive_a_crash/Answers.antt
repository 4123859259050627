use Rattle.lsm_model.proofs.CountLemmas.{crash_front, durable_outlives, synced_outlives}
use Rattle.lsm_model.proofs.laws.durable_batches_outlive_a_crash.Goals as goal

pub returns-clause-front : goal.returns-clause-front
returns-clause-front c = crash_front

pub returns-clause-earlier : goal.returns-clause-earlier
returns-clause-earlier c = durable_outlives

pub returns-clause-synced : goal.returns-clause-synced
returns-clause-synced c = synced_outlives
