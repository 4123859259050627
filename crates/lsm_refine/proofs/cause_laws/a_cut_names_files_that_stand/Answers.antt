use Rattle.lsm_refine.proofs.ListedLemmas.{cut_lists, cut_stands_now}
use Rattle.lsm_refine.proofs.cause_laws.a_cut_names_files_that_stand.Goals as goal

pub returns-clause-lists : goal.returns-clause-lists
returns-clause-lists c = cut_lists

pub returns-clause-stand : goal.returns-clause-stand
returns-clause-stand c = cut_stands_now
