use Rattle.lsm_refine.proofs.AmongLemmas.{among_none, among_both, among_at, among_more, among_renamed, new_alone}
use Rattle.lsm_refine.proofs.edit_laws.changes_at_a_few_names.Goals as goal

pub returns-clause-none : goal.returns-clause-none
returns-clause-none c = among_none

pub returns-clause-both : goal.returns-clause-both
returns-clause-both c = among_both

pub returns-clause-one : goal.returns-clause-one
returns-clause-one c = among_at

pub returns-clause-renamed : goal.returns-clause-renamed
returns-clause-renamed c = among_renamed

pub returns-clause-more : goal.returns-clause-more
returns-clause-more c = among_more

pub returns-clause-alone : goal.returns-clause-alone
returns-clause-alone c = new_alone
