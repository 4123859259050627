use Rattle.lsm_table.proofs.StoredReads.{stored_reads}
use Rattle.lsm_table.proofs.laws.stored_contents_are_read.Goals as goal

pub returns : goal.returns
returns c = stored_reads
