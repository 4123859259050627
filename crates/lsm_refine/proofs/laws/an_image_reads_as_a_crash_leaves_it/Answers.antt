use Rattle.lsm_refine.proofs.CrashLemmas.{image_reads}
use Rattle.lsm_refine.proofs.laws.an_image_reads_as_a_crash_leaves_it.Goals as goal

pub returns : goal.returns
returns c = image_reads
