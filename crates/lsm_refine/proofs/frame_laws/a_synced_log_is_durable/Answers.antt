use Rattle.lsm_refine.proofs.SyncedLemmas.{sync_good, synced_good, sync_halts, sync_shows}
use Rattle.lsm_refine.proofs.frame_laws.a_synced_log_is_durable.Goals as goal

pub returns-clause-synced : goal.returns-clause-synced
returns-clause-synced c = sync_good

pub returns-clause-some : goal.returns-clause-some
returns-clause-some c = synced_good

pub returns-clause-halted : goal.returns-clause-halted
returns-clause-halted c = sync_halts

pub returns-clause-images : goal.returns-clause-images
returns-clause-images c = sync_shows
