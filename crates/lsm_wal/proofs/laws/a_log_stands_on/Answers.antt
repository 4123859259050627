use Rattle.lsm_wal.proofs.Changed.{there, untouched, synced}
use Rattle.lsm_wal.proofs.laws.a_log_stands_on.Goals as goal

pub returns-clause-there : goal.returns-clause-there
returns-clause-there c = there

pub returns-clause-untouched : goal.returns-clause-untouched
returns-clause-untouched c = untouched

pub returns-clause-synced : goal.returns-clause-synced
returns-clause-synced c = synced
