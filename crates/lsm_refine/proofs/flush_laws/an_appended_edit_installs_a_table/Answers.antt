use Rattle.lsm_refine.proofs.InstalledLemmas.{one_more, installed_good}
use Rattle.lsm_refine.proofs.FlushReads.{appended_version, appended_adds, append_reads, append_halts}
use Rattle.lsm_refine.proofs.flush_laws.an_appended_edit_installs_a_table.Goals as goal

pub returns-clause-good : goal.returns-clause-good
returns-clause-good c = installed_good

pub returns-clause-version : goal.returns-clause-version
returns-clause-version c = appended_version

pub returns-clause-adds : goal.returns-clause-adds
returns-clause-adds c = appended_adds

pub returns-clause-images : goal.returns-clause-images
returns-clause-images c = append_reads

pub returns-clause-halted : goal.returns-clause-halted
returns-clause-halted c = append_halts

pub returns-clause-many : goal.returns-clause-many
returns-clause-many c = one_more
