use Rattle.lsm_wal.proofs.Fronts.{whole_reads}
use Rattle.lsm_wal.proofs.laws.a_whole_log_reads_to_its_batches.Goals as goal

pub returns : goal.returns
returns c = whole_reads
