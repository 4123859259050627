use Rattle.lsm_refine.proofs.BesideLemmas.{writes_none, writes_both, file_writes, names_write, lone_stays}
use Rattle.lsm_refine.proofs.frame_laws.one_file_is_written.Goals as goal

pub returns-clause-none : goal.returns-clause-none
returns-clause-none c = writes_none

pub returns-clause-both : goal.returns-clause-both
returns-clause-both c = writes_both

pub returns-clause-file : goal.returns-clause-file
returns-clause-file c = file_writes

pub returns-clause-names : goal.returns-clause-names
returns-clause-names c = names_write

pub returns-clause-lone : goal.returns-clause-lone
returns-clause-lone c = lone_stays
