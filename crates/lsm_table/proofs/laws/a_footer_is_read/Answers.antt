use Rattle.lsm_table.proofs.StoredReads.{footer_reads}
use Rattle.lsm_table.proofs.laws.a_footer_is_read.Goals as goal

pub returns : goal.returns
returns c = footer_reads
