use Rattle.std.proofs.Common.{arith}
use Rattle.lsm_memtable.proofs.Progresses.{progress_none}
use Rattle.lsm_memtable.proofs.progress.Progress.new.Goals as goal

pub returns-clause-progress : goal.returns-clause-progress
returns-clause-progress c = λ rows. progress_none c.new.result 0 rows c.new.ensures.built c.new.ensures.empty (omega arith)
