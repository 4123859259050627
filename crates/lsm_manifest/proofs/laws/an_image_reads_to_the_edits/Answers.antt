use Rattle.lsm_manifest.proofs.Read.{whole_reads, either_reads}
use Rattle.lsm_manifest.proofs.laws.an_image_reads_to_the_edits.Goals as goal

pub returns-clause-whole : goal.returns-clause-whole
returns-clause-whole c = whole_reads

pub returns-clause-either : goal.returns-clause-either
returns-clause-either c = either_reads
