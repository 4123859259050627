use Rattle.lsm_wal.proofs.Once.{read_once}
use Rattle.lsm_wal.proofs.laws.a_text_reads_in_one_way.Goals as goal

pub returns : goal.returns
returns c = read_once
