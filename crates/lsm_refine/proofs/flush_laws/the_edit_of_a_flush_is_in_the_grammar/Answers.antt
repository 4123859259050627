use Rattle.lsm_refine.proofs.WholeEditLemmas.{flush_fits, tables_in_range}
use Rattle.lsm_refine.proofs.flush_laws.the_edit_of_a_flush_is_in_the_grammar.Goals as goal

pub returns-clause-edit : goal.returns-clause-edit
returns-clause-edit c = flush_fits

pub returns-clause-tables : goal.returns-clause-tables
returns-clause-tables c = tables_in_range
