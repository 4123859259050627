use Rattle.lsm_wal.proofs.Fronts.{image_reads}
use Rattle.lsm_wal.proofs.laws.an_image_reads_to_a_front.Goals as goal

pub returns : goal.returns
returns c = image_reads
