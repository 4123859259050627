use Rattle.lsm_refine.proofs.WithinRuns.{reading_within, there_within, image_within, sure_within, stands_within, folders_within}
use Rattle.lsm_refine.proofs.within_laws.folders_beside_read_as_before.Goals as goal

pub returns-clause-reads : goal.returns-clause-reads
returns-clause-reads c = reading_within

pub returns-clause-there : goal.returns-clause-there
returns-clause-there c = there_within

pub returns-clause-images : goal.returns-clause-images
returns-clause-images c = image_within

pub returns-clause-sure : goal.returns-clause-sure
returns-clause-sure c = sure_within

pub returns-clause-own : goal.returns-clause-own
returns-clause-own c = stands_within

pub returns-clause-all : goal.returns-clause-all
returns-clause-all c = folders_within
