use Rattle.lsm_restoring.proofs.RestoredReads.{lacking_reads, names_lack}
use Rattle.lsm_restoring.proofs.RestoredWhole.{built_sure}
use Rattle.lsm_restoring.proofs.restore_laws.a_restores_folder_reads_so.Goals as goal

pub returns-clause-lacks : goal.returns-clause-lacks
returns-clause-lacks c = lacking_reads

pub returns-clause-building : goal.returns-clause-building
returns-clause-building c = names_lack

pub returns-clause-whole : goal.returns-clause-whole
returns-clause-whole c = built_sure
