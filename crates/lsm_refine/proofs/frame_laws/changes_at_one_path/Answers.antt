use Rattle.lsm_refine.proofs.ChangeLemmas.{changes_none, changes_both, file_written_at, names_synced_at, made_at, gone_at}
use Rattle.lsm_refine.proofs.frame_laws.changes_at_one_path.Goals as goal

pub returns-clause-none : goal.returns-clause-none
returns-clause-none c = changes_none

pub returns-clause-both : goal.returns-clause-both
returns-clause-both c = changes_both

pub returns-clause-written : goal.returns-clause-written
returns-clause-written c = file_written_at

pub returns-clause-names : goal.returns-clause-names
returns-clause-names c = names_synced_at

pub returns-clause-made : goal.returns-clause-made
returns-clause-made c = λ path d lawful. made_at path d lawful.files

pub returns-clause-unlinked : goal.returns-clause-unlinked
returns-clause-unlinked c = gone_at
