use Rattle.ldb_script.proofs.Closing.{last_synced, last_broken}
use Rattle.ldb_script.proofs.script.sync_last.Goals as goal

pub returns-in-Ok-clause-synced : goal.returns-in-Ok-clause-synced
returns-in-Ok-clause-synced g c start outcome was = last_synced start c.args.store.now c.sync.new.self outcome (c.in-Ok.ensures.syncs start outcome was)

pub returns-in-Err-clause-synced : goal.returns-in-Err-clause-synced
returns-in-Err-clause-synced g c start outcome was = last_broken start c.args.store.now c.sync.new.self outcome c.in-Err.error c.broken.result c.broken.ensures (c.in-Err.ensures.syncs start outcome was)
